use Rattle.std.specs.Prelude.{◌++◌, ◌∷◌, [], length}
use Rattle.std.proofs.Common.{◌≡◌, ◌∙◌, ap, arith}
use Rattle.disk_journal.specs.Frame.{staged_in}
use Rattle.disk_journal.proofs.StagedLemmas.{length-text_of, pushed}
use Rattle.disk_journal.proofs.frame.Frame.push.Goals as goal

pub append-requires-clause-sealed : goal.append-requires-clause-sealed
append-requires-clause-sealed c =
    omega (arith, c.in_ok-reserve-2.ensures.len, ap length c.self.invariant.written, length-text_of (staged_in c.self.inside.lengths.items c.self.inside.text.items))

pub invariant_of-self-2 : goal.invariant_of-self-2
invariant_of-self-2 c =
    let payload = c.args.payload.now in
    let lengths = c.self.inside.lengths.items in
    let more : c.push_reserved.new.self.items ≡ lengths ++ length payload ∷ [] = c.push_reserved.ensures.items ∙ ap (λ l. l ++ length payload ∷ []) c.in_ok-reserve.ensures.items in
    (pushed payload lengths c.self.inside.text.items _ _ c.self.invariant c.requires more (λ payloads e. c.append.ensures payloads (c.in_ok-reserve-2.ensures.items ∙ e))).0

pub returns-clause-ok : goal.returns-clause-ok
returns-clause-ok c =
    let payload = c.args.payload.now in
    let lengths = c.self.inside.lengths.items in
    let more : c.push_reserved.new.self.items ≡ lengths ++ length payload ∷ [] = c.push_reserved.ensures.items ∙ ap (λ l. l ++ length payload ∷ []) c.in_ok-reserve.ensures.items in
    (pushed payload lengths c.self.inside.text.items _ _ c.self.invariant c.requires more (λ payloads e. c.append.ensures payloads (c.in_ok-reserve-2.ensures.items ∙ e))).1
    ∙ ap (λ l. l ++ payload ∷ []) c.self.view_is
