use Rattle.std.proofs.Common.{◌≡◌, ℕ, Bool, true, false, List, [], ◌∷◌, ◌++◌, cond, sym, subst}
use Rattle.std.specs.Prelude.{is_ok}
use Rattle.std.specs.List.{All}
use Rattle.std.proofs.lemmas.List.Elements.{All-append, All-cons, All-nil}
use Rattle.archive_records.specs.Inside.{IsGameWithin}
use Rattle.archive_records.specs.declared.game.ArchiveGame.{ArchiveGame}
use Rattle.archive_records.proofs.kept.Kept.close.Goals as goal

-- one game more, or none for want of memory
pushed : (n : ℕ) (b : Bool) (xs ys : List ArchiveGame) (game : ArchiveGame) → ys ≡ cond b (xs ++ game ∷ []) xs → All (IsGameWithin n) xs → IsGameWithin n game → All (IsGameWithin n) ys
pushed n true xs ys game is all one =
    subst (All (IsGameWithin n)) (sym is) (All-append (IsGameWithin n) xs (game ∷ []) all (All-cons (IsGameWithin n) game [] one (All-nil (IsGameWithin n))))
pushed n false xs ys game is all one = subst (All (IsGameWithin n)) (sym is) all

pub invariant_of-self : goal.invariant_of-self
invariant_of-self c =
    let before = c.take_draft-game.new.self in
    record {
      draft_within = before.draft_within;
      ended_within = pushed before.reached (is_ok c.push_back.result) before.ended.items c.push_back.new.self.items c.take_draft-game.result c.push_back.ensures.items before.ended_within
          (subst (λ n. IsGameWithin n c.take_draft-game.result) (sym c.take_draft-game.ensures.reached) c.take_draft-game.ensures.within);
    }
