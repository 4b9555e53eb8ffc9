use Rattle.std.proofs.Common.{◌≡◌, ◌∙◌, length, refl, sym, arith}
use Rattle.std.proofs.lemmas.Bool.{eqb-true}
use Rattle.leaf_search.proofs.WinLemmas.{entered_before}
use Rattle.leaf_search.proofs.wins.entered_rank.Goals as goal

pub returns-then-is_empty : goal.returns-then-is_empty
returns-then-is_empty g c =
    let none : length c.args.part.now.entries ≡ 0 = eqb-true (length c.args.part.now.entries) 0 (sym c.is_empty.ensures ∙ c.if-is_empty.true) in
    λ h. (let place = h.1.1 in absurd (omega (arith, place, none)))

pub returns-in-Some : goal.returns-in-Some
returns-in-Some g c =
    entered_before (g.O.Oracle.answer_at c.args.oracle.now) c.args.part.now c.requires c.args.p.now c.in-Some.entry ((c.in-Some.ensures.found c.in-Some.entry).0 refl)

pub returns-in-None : goal.returns-in-None
returns-in-None g c = c.in-None.ensures.none.0 refl
