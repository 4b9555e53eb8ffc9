use Rattle.std.proofs.Common.{◌∙◌, ◌++◌, ap, sym, subst, length, List, ℕ, arith, length-append}
use Rattle.bench_records.specs.Names.{Sheet, marks}
use Rattle.bench_records.specs.Woven.{woven, AreRising}
use Rattle.bench_records.proofs.Weaving.{rising_longer, woven_longer}
use Rattle.bench_records.proofs.sheet.Sheet.extend.Goals as goal

pub invariant_of-self-2 : goal.invariant_of-self-2
invariant_of-self-2 c =
    let names = c.self.inside.names.items in
    let bytes = c.self.inside.bytes.items in
    let more = c.args.bytes.now in
    subst (λ (bs : List ℕ). AreRising 0 (length bs) names) (sym c.in_ok-extend_from_slice.ensures.items)
    (rising_longer 0 (length bytes) (length (bytes ++ more)) names (omega (arith, length-append bytes more)) c.self.invariant)

pub returns : goal.returns
returns c =
    let names = c.self.inside.names.items in
    let bytes = c.self.inside.bytes.items in
    let more = c.args.bytes.now in
    ap (λ (bs : List ℕ). woven 0 bs names) c.in_ok-extend_from_slice.ensures.items
    ∙ woven_longer 0 bytes more names c.self.invariant ∙ ap (λ (s : Sheet). s ++ marks more) c.self.view_is
