use Rattle.std.proofs.Common.{◌≡◌, ◌∷◌, ◌++◌, [], List, Bool, true, false, Some, cond, set, slice_get, sym, ◌∙◌, ap, subst, arith}
use Rattle.std.specs.Prelude.{nat_lt}
use Rattle.std.proofs.lemmas.Bool.Decides.{nat_tests}
use Rattle.draughts_board.specs.Board.{Board}
use Rattle.position_rows.proofs.ApartLemmas.{lookup_found}
use Rattle.strategy_certificate.specs.declared.entries.WinEntry.{WinEntry}
use Rattle.strategy_certificate.proofs.MergeLemmas.{HasNone, kept_there, merged_wins-new, merged_wins-there, merged_wins-kept, none_if_added, noted_last, place_inside}
use Rattle.strategy_certificate.proofs.merging.improve.Goals as goal

pub row_at-kept-requires : goal.row_at-kept-requires
row_at-kept-requires c =
    let old = c.args.into.now.entries in
    let same : c.note.new.self.entries ≡ old =
    c.in-Ok.ensures.rows ∙ ap (λ (b : Bool). cond b (old ++ (c.args.p.now, c.args.e.now) ∷ []) old) c.if-added.false in
    place_inside old c.note.new.self.entries c.args.p.now c.in-Ok.i c.in-Ok.added c.in-Ok.ensures.place c.in-Ok.ensures.new c.if-added.false same

pub returns-then-added-clause-entries : goal.returns-then-added-clause-entries
returns-then-added-clause-entries c =
    let old = c.args.into.now.entries in
    let none : HasNone old c.args.p.now = none_if_added old c.args.p.now c.in-Ok.added c.in-Ok.ensures.new c.if-added.true in
    c.in-Ok.ensures.rows
    ∙ (noted_last old c.args.p.now c.args.e.now c.in-Ok.added c.in-Ok.ensures.new none ∙ merged_wins-new old (c.args.p.now, c.args.e.now) none)

pub returns-then-kept-e-clause-entries : goal.returns-then-kept-e-clause-entries
returns-then-kept-e-clause-entries c =
    let old = c.args.into.now.entries in
    let kept : WinEntry = c.row_at-kept.result.1 in
    let same : c.note.new.self.entries ≡ old =
    c.in-Ok.ensures.rows ∙ ap (λ (b : Bool). cond b (old ++ (c.args.p.now, c.args.e.now) ∷ []) old) c.if-added.false in
    let at : slice_get old c.in-Ok.i ≡ Some (c.args.p.now, kept) =
    kept_there old c.note.new.self.entries c.args.p.now c.in-Ok.i c.in-Ok.added c.row_at-kept.result c.in-Ok.ensures.place c.in-Ok.ensures.new c.if-added.false same c.row_at-kept.ensures in
    let less : nat_lt c.args.e.now.rank kept.rank ≡ false = grind (arith, nat_tests) in
    same
    ∙ merged_wins-kept old (c.args.p.now, c.args.e.now) kept c.requires.distinct (lookup_found old c.requires.distinct c.in-Ok.i c.args.p.now kept at) less

pub returns-clause-entries : goal.returns-clause-entries
returns-clause-entries c =
    let old = c.args.into.now.entries in
    let kept : WinEntry = c.row_at-kept.result.1 in
    let same : c.note.new.self.entries ≡ old =
    c.in-Ok.ensures.rows ∙ ap (λ (b : Bool). cond b (old ++ (c.args.p.now, c.args.e.now) ∷ []) old) c.if-added.false in
    let at : slice_get old c.in-Ok.i ≡ Some (c.args.p.now, kept) =
    kept_there old c.note.new.self.entries c.args.p.now c.in-Ok.i c.in-Ok.added c.row_at-kept.result c.in-Ok.ensures.place c.in-Ok.ensures.new c.if-added.false same c.row_at-kept.ensures in
    let below : nat_lt c.args.e.now.rank kept.rank ≡ true = grind (arith, nat_tests) in
    let now : slice_get c.note.new.self.entries c.in-Ok.i ≡ Some (c.args.p.now, kept) =
    subst (λ (es : List (Board × WinEntry)). slice_get es c.in-Ok.i ≡ Some (c.args.p.now, kept)) (sym same) at in
    c.replace.ensures.entries c.args.p.now kept now
    ∙ (ap (λ (es : List (Board × WinEntry)). set es c.in-Ok.i (c.args.p.now, c.args.e.now)) same
    ∙ merged_wins-there old (c.args.p.now, c.args.e.now) kept c.in-Ok.i c.requires.distinct at below)
