-- The win in one of `specs/Examples.antt`, by computation.
use Rattle.std.proofs.Common.{◌≡◌, ℕ, ◌<◌, inl, inr, List, [], ◌∷◌, refl, sym, ap, subst, Some, None, arith}
use Rattle.std.specs.Prelude.{Contains, All}
use Rattle.std.proofs.lemmas.Bool.{false≢true}
use Rattle.std.proofs.lemmas.List.Elements.{All-nil, All-cons, All-head}
use Rattle.draughts_board.specs.Geometry.{squares}
use Rattle.draughts_board.specs.Board.{Board}
use Rattle.draughts_board.specs.Rules.{IsLegal, after}
use Rattle.draughts_board.specs.Play.{grown, captures, steps, legal_paths, successors_of}
use Rattle.draughts_board.specs.Examples.{man_blocked, man_to_block}
use Rattle.draughts_board.proofs.Members.{Contains-nil, only_one}
use Rattle.draughts_board.proofs.Successors.{lawful-from_test}
use Rattle.strategy_certificate.specs.declared.entries.WinEntry.{WinEntry}
use Rattle.strategy_certificate.specs.Parts.{WinList}
use Rattle.strategy_certificate.specs.Certificates.{IsReached, IsReachedBelow, IsGoodWinEntry, IsGoodWinPart}
use Rattle.strategy_certificate.specs.Examples.{no_answer, with_rank, white_wins, begun_by, win_in_one}

-- ---- the two positions

no_moves : successors_of man_blocked ≡ []
unfolding squares grown captures steps legal_paths successors_of
no_moves = refl

pub blocked_ends : (q : Board) → ¬ Contains (successors_of man_blocked) q
blocked_ends q next = Contains-nil q (subst (λ qs. Contains qs q) no_moves next)

-- 23-19 is the last of White's three moves
pub blocks : Contains (successors_of man_to_block) man_blocked
unfolding squares grown captures steps legal_paths successors_of
blocks = (2, omega arith, refl)

legal : IsLegal man_to_block (23 ∷ 19 ∷ [])
unfolding squares
legal = inr (record { two = refl; own = refl; step = refl; no_jump = refl })

not_legal : ¬ IsLegal man_to_block (23 ∷ 27 ∷ [])
not_legal (inl c) = false≢true c.jumps
not_legal (inr s) = false≢true s.step

-- ---- a good part

there : IsReached win_in_one no_answer 0 (after man_to_block (23 ∷ 19 ∷ []))
there = inl (with_rank 0 None, ((1, omega arith, refl), refl))

pub root : IsReached win_in_one no_answer 1 man_to_block
root = inl (with_rank 1 (Some (23 ∷ 19 ∷ [])), ((0, omega arith, refl), refl))

good_first : IsGoodWinEntry win_in_one no_answer man_to_block (with_rank 1 (Some (23 ∷ 19 ∷ [])))
good_first = record {
  lawful = lawful-from_test man_to_block refl;
  move = (refl, legal);
  below = All-cons (IsReachedBelow win_in_one no_answer 1) (after man_to_block (23 ∷ 19 ∷ [])) [] (0, (omega arith, there)) (All-nil (IsReachedBelow win_in_one no_answer 1));
}

good_second : IsGoodWinEntry win_in_one no_answer man_blocked (with_rank 0 None)
good_second = record {
  lawful = lawful-from_test man_blocked refl;
  move = refl;
  below = subst (All (IsReachedBelow win_in_one no_answer 0)) (sym no_moves) (All-nil (IsReachedBelow win_in_one no_answer 0));
}

pub win_in_one-good : IsGoodWinPart win_in_one no_answer
win_in_one-good =
    All-cons (λ row. IsGoodWinEntry win_in_one no_answer row.0 row.1) (man_to_block, with_rank 1 (Some (23 ∷ 19 ∷ []))) ((man_blocked, with_rank 0 None) ∷ []) good_first
    (All-cons (λ row. IsGoodWinEntry win_in_one no_answer row.0 row.1) (man_blocked, with_rank 0 None) [] good_second (All-nil (λ row. IsGoodWinEntry win_in_one no_answer row.0 row.1)))

-- ---- and parts that are not

-- the first entry of a good part is good
good_head : (part : WinList) (p : Board) (e : WinEntry) (rows : List (Board × WinEntry)) → part.entries ≡ (p, e) ∷ rows → IsGoodWinPart part no_answer → IsGoodWinEntry part no_answer p e
good_head part p e rows is good =
    All-head (λ row. IsGoodWinEntry part no_answer row.0 row.1) (p, e) rows (subst (All (λ row. IsGoodWinEntry part no_answer row.0 row.1)) is good)

pub level : ¬ IsGoodWinPart (begun_by (with_rank 0 (Some (23 ∷ 19 ∷ [])))) no_answer
level good =
    let part = begun_by (with_rank 0 (Some (23 ∷ 19 ∷ []))) in
    let entry = good_head part man_to_block (with_rank 0 (Some (23 ∷ 19 ∷ []))) ((man_blocked, with_rank 0 None) ∷ []) refl good in
    let below : IsReachedBelow part no_answer 0 (after man_to_block (23 ∷ 19 ∷ [])) = All-head (IsReachedBelow part no_answer 0) (after man_to_block (23 ∷ 19 ∷ [])) [] entry.below in
    let lt : below.0 < 0 = below.1.0 in
    omega arith

pub without_move : ¬ IsGoodWinPart (begun_by (with_rank 1 None)) no_answer
without_move good =
    let entry = good_head (begun_by (with_rank 1 None)) man_to_block (with_rank 1 None) ((man_blocked, with_rank 0 None) ∷ []) refl good in
    let move = entry.move in
    cc

pub backward : ¬ IsGoodWinPart (begun_by (with_rank 1 (Some (23 ∷ 27 ∷ [])))) no_answer
backward good =
    let entry = good_head (begun_by (with_rank 1 (Some (23 ∷ 27 ∷ [])))) man_to_block (with_rank 1 (Some (23 ∷ 27 ∷ []))) ((man_blocked, with_rank 0 None) ∷ []) refl good in
    not_legal entry.move.1

-- the lone entry is of White's turn, and a table without answers shows nothing
not_reached : (m : ℕ) → ¬ IsReached (white_wins ((man_to_block, with_rank 1 (Some (23 ∷ 19 ∷ []))) ∷ [])) no_answer m (after man_to_block (23 ∷ 19 ∷ []))
not_reached m (inl (e, (here, is))) =
    let same = ap (λ (row : Board × WinEntry). row.0.to_move) (only_one (man_to_block, with_rank 1 (Some (23 ∷ 19 ∷ []))) (after man_to_block (23 ∷ 19 ∷ []), e) here) in
    cc
not_reached m (inr (inl (mine, is))) = cc
not_reached m (inr (inr (theirs, is))) = cc

pub alone : ¬ IsGoodWinPart (white_wins ((man_to_block, with_rank 1 (Some (23 ∷ 19 ∷ []))) ∷ [])) no_answer
alone good =
    let part = white_wins ((man_to_block, with_rank 1 (Some (23 ∷ 19 ∷ []))) ∷ []) in
    let entry = good_head part man_to_block (with_rank 1 (Some (23 ∷ 19 ∷ []))) [] refl good in
    let below = All-head (IsReachedBelow part no_answer 1) (after man_to_block (23 ∷ 19 ∷ [])) [] entry.below in
    not_reached below.0 below.1.1
