use Rattle.std.proofs.Common.{◌≡◌, ◌++◌, ◌∙◌, ap, append_assoc, List, ℕ}
use Rattle.std.proofs.lemmas.Result.{on_ok_weaker}
use Rattle.tree_texts.proofs.json.push_json_wins.Goals as goal

-- a text that grows twice
twice : (old mid new first second : List ℕ) → mid ≡ old ++ first → new ≡ mid ++ second → new ≡ old ++ (first ++ second)
twice old mid new first second once more = more ∙ (ap (λ (t : List ℕ). t ++ second) once ∙ append_assoc old first second)

pub returns : goal.returns
returns c = on_ok_weaker c.push_json_truth-2.result (twice _ _ _ _ _ c.in_ok-push_json_truth.ensures) c.push_json_truth-2.ensures
