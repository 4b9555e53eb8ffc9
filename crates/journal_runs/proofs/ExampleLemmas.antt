-- The root of the worked run, and what the files of its disk read as.
use Rattle.std.specs.Prelude.{◌≡◌, ◌≢◌, refl, ◌≤◌, ◌<◌, ◌⊎◌, ℕ, zero, suc, ◌+◌, Bool, true, false, IsTrue, List, [], ◌∷◌, ◌++◌, All, Contains, length, take, drop, get_or}
use Rattle.std.proofs.Common.{sym, ◌∙◌, ap, subst, inl, inr, arith, lit<, lit≤}
use Rattle.std.proofs.lemmas.Bool.{false≢true}
use Rattle.std.proofs.lemmas.List.{take_more, take-append-drop, length-take, ext_get_or}
use Rattle.std.proofs.lemmas.List.Elements.{All-nil, All-cons}
use Rattle.bench_disk.specs.Disk.{IsTorn}
use Rattle.bench_disk.specs.Torn.{take-torn, drop-torn}
use Rattle.disk_journal.specs.Format.{IsFrame, IsPayload, IsPrefixOf, body, payload_length, body_length}
use Rattle.draughts_board.proofs.Members.{Contains-nil}
use Rattle.draughts_board.proofs.Truth.{Wins-holds}
use Rattle.draughts_board.specs.Board.{Board, IsLawful}
use Rattle.draughts_board.specs.Draughts.{draughts}
use Rattle.draughts_board.specs.Examples.{man_blocked, man_to_block}
use Rattle.draughts_board.specs.Game.{ShowsHold, ShowsWin, WinsIn, by_move, is_at_sight}
use Rattle.draughts_board.specs.Geometry.{squares}
use Rattle.draughts_board.specs.Masks.{mask_of}
use Rattle.draughts_board.specs.Play.{captures, grown, legal_paths, steps, successors_of}
use Rattle.draughts_board.specs.declared.pieces.Side.{Side}
use Rattle.draughts_board.specs.declared.pieces.Side.TheVariants.{Black, White}
use Rattle.proof_numbers.specs.Facts.{no_facts}
use Rattle.proof_numbers.specs.Known.{nothing_known}
use Rattle.proof_numbers.specs.Sight.{AreFactsAtSight}
use Rattle.proof_numbers.specs.declared.facts.Facts.{Facts}
use Rattle.proof_numbers.specs.declared.leaves.Child.{Child}
use Rattle.proof_tree.specs.Changes.{with_root}
use Rattle.proof_tree.specs.Forest.{Forest, no_node}
use Rattle.bench_core.specs.Growing.{GrowsWith, IsForestOf}
use Rattle.bench_records.specs.Positions.{short_text}
use Rattle.bench_records.specs.Texts.{IsText}
use Rattle.bench_records.specs.declared.records.BenchRecord.{BenchRecord}
use Rattle.bench_records.specs.declared.records.BenchRecord.TheVariants.{Begin}
use Rattle.tree_manager.specs.Receipts.{ReadsBetween, ReadsRecords, SpellsRecords}
use Rattle.journal_runs.specs.Examples.{Stop, entry, opened, head_written, head_synced, frame_written, frame_synced, gate_written, finished, blocked_root, left_at, root_frame, with_gate}

-- ---- the positions

blocked_lawful : IsLawful man_blocked
unfolding squares
blocked_lawful = record { squares = refl; black = lit≤ tt; white = lit≤ tt; men = refl }

to_block_lawful : IsLawful man_to_block
unfolding squares
to_block_lawful = record { squares = refl; black = lit≤ tt; white = lit≤ tt; men = refl }

pub lost : WinsIn draughts White 0 man_blocked
unfolding squares grown captures steps legal_paths successors_of
lost = (refl, refl)

blocks : Contains (successors_of man_to_block) man_blocked
unfolding squares grown captures steps legal_paths successors_of
blocks = (2, omega arith, refl)

pub seen : is_at_sight draughts 2 man_blocked ≡ true
unfolding squares grown captures steps legal_paths successors_of
seen = refl

pub unseen : is_at_sight draughts 2 man_to_block ≡ false
unfolding squares grown captures steps legal_paths successors_of
unseen = refl

pub shown : ShowsWin draughts 2 White 1 man_to_block
shown = inr (unseen, by_move man_blocked refl blocks (seen, (0, lost)))

-- ---- their roots

blocked_child : Child
unfolding squares grown captures steps legal_paths successors_of
blocked_child = record {
  position = man_blocked;
  facts = record {
    black_wins = false;
    white_wins = true;
    black_holds = false;
    white_holds = true;
    black = λ h. absurd (false≢true h);
    white = λ h. (refl, refl);
  };
  moves = 1;
  counted = refl;
}

to_block_child : Child
unfolding squares grown captures steps legal_paths successors_of
to_block_child = record { position = man_to_block; facts = no_facts; moves = 3; counted = refl }

pub no_win_unseen : (s : Side) → ¬ ShowsWin draughts 2 s 0 man_to_block
no_win_unseen s h = false≢true (sym unseen ∙ h.0)

pub no_hold_unseen : (s : Side) → ¬ ShowsHold draughts 2 s 0 [] man_to_block
no_hold_unseen s (inl h) = Contains-nil man_to_block h
no_hold_unseen s (inr h) = false≢true (sym unseen ∙ h.0)

blocked_sight : AreFactsAtSight 2 man_blocked (record { black_wins = false; white_wins = true; black_holds = false; white_holds = true })
blocked_sight = record {
  black_wins = (λ h. absurd (false≢true h), λ h. absurd (Wins-holds draughts White man_blocked (0, lost) h.1));
  white_wins = (λ h. (seen, (0, lost)), λ h. refl);
  black_holds = (λ h. absurd (false≢true h), λ h. absurd (no_hold h));
  white_holds = (λ h. inr (seen, Wins-holds draughts White man_blocked (0, lost)), λ h. refl);
} where
  no_hold : ¬ ShowsHold draughts 2 Black 0 [] man_blocked
  no_hold (inl h) = Contains-nil man_blocked h
  no_hold (inr h) = h.1 (0, lost)

to_block_sight : AreFactsAtSight 2 man_to_block nothing_known
to_block_sight = record {
  black_wins = (λ h. absurd (false≢true h), λ h. absurd (no_win_unseen Black h));
  white_wins = (λ h. absurd (false≢true h), λ h. absurd (no_win_unseen White h));
  black_holds = (λ h. absurd (false≢true h), λ h. absurd (no_hold_unseen Black h));
  white_holds = (λ h. absurd (false≢true h), λ h. absurd (no_hold_unseen White h));
}

pub blocked_grown : IsForestOf 2 (Begin man_blocked ∷ []) blocked_root
unfolding blocked_child
blocked_grown = (
  blocked_root,
  (
    record {
      lawful = record { lawful = blocked_lawful; absent = λ h. Contains-nil man_blocked h; room = lit< tt };
      applied = (blocked_child, (refl, (blocked_sight, refl)));
    },
    refl,
  ),
)

pub to_block_grown : IsForestOf 2 (Begin man_to_block ∷ []) (with_root man_to_block nothing_known no_node)
unfolding to_block_child
to_block_grown = (
  with_root man_to_block nothing_known no_node,
  (
    record {
      lawful = record { lawful = to_block_lawful; absent = λ h. Contains-nil man_to_block h; room = lit< tt };
      applied = (to_block_child, (refl, (to_block_sight, refl)));
    },
    refl,
  ),
)

-- ---- what the files read as

pub reads_empty : ReadsRecords 2 [] []
reads_empty = record { payloads = []; stands = inl (lit≤ tt, refl); spelled = tt; lawful = (no_node, refl) }

fresh : (image : List ℕ) → length image ≤ 9 → ReadsRecords 2 image []
fresh image le = record { payloads = []; stands = inl (le, refl); spelled = tt; lawful = (no_node, refl) }

pub reads_closed : (gate : ℕ) (rest : List ℕ) → gate ≢ 1 → ReadsRecords 2 (with_gate gate rest) []
reads_closed gate [] closed = fresh (with_gate gate []) (lit≤ tt)
reads_closed gate (b ∷ rest) closed = record {
  payloads = [];
  stands = inr (omega arith, [], record { gate = gate; rest = b ∷ rest; text = refl; closed = closed; each = All-nil IsFrame; table = inl refl }, refl);
  spelled = tt;
  lawful = (no_node, refl);
}

-- the record that begins the root
payload : List ℕ
payload = 4 ∷ 0 ∷ 0 ∷ 0 ∷ 0 ∷ 0 ∷ 0 ∷ 0 ∷ 8 ∷ 0 ∷ 0 ∷ 0 ∷ 0 ∷ 0 ∷ 0 ∷ 4 ∷ 128 ∷ 0 ∷ 0 ∷ 0 ∷ 0 ∷ 0 ∷ []

spelled : IsText 2 [] (Begin man_blocked) payload
unfolding payload short_text mask_of
spelled = record { shows = tt; sound = blocked_lawful; spelled = inr (refl, lit< tt) }

is_payload : IsPayload payload
unfolding payload
is_payload = record { some = λ e. cc; fits = lit< tt }

is_frame : IsFrame (payload ∷ [])
unfolding payload payload_length
is_frame = record { some = λ e. cc; each = All-cons IsPayload payload [] is_payload (All-nil IsPayload); fits = lit< tt }

pub reads_row : ReadsRecords 2 (with_gate 1 root_frame) (Begin man_blocked ∷ [])
unfolding payload payload_length body_length
reads_row = record {
  payloads = payload ∷ [];
  stands = inr (
    lit< tt,
    (payload ∷ []) ∷ [],
    record {
      gate = 0;
      rest = [];
      text = refl;
      closed = λ e. (omega (arith, e));
      each = All-cons IsFrame (payload ∷ []) [] is_frame (All-nil IsFrame);
      table = inl refl;
    },
    refl,
  );
  spelled = (spelled, tt);
  lawful = (blocked_root, blocked_grown);
}

-- an empty file reads as no record, and as nothing else
pub none_read : (records : List BenchRecord) → ReadsRecords 2 [] records → records ≡ []
none_read records reads = elim reads.stands [ inl h ↦ none records (subst (SpellsRecords 2 [] records) h.1 reads.spelled) | inr h ↦ absurd (let long : 9 < 0 = h.0 in omega (arith, long)) ] where
  none : (records : List BenchRecord) → SpellsRecords 2 [] records [] → records ≡ []
  none [] h = refl
  none (r ∷ records) h = absurd h

-- ---- what a crash leaves

between_none : (image : List ℕ) → ReadsRecords 2 image [] → ReadsBetween 2 [] (Begin man_blocked ∷ []) image
between_none image reads = record { records = []; reads = reads; above = ([], refl); below = (Begin man_blocked ∷ [], refl) }

between_all : (image : List ℕ) → ReadsRecords 2 image (Begin man_blocked ∷ []) → ReadsBetween 2 [] (Begin man_blocked ∷ []) image
between_all image reads = record { records = Begin man_blocked ∷ []; reads = reads; above = (Begin man_blocked ∷ [], refl); below = ([], refl) }

torn_frame : (image : List ℕ) → IsTorn 9 35 (with_gate 0 []) image → with_gate 0 (drop 9 image) ≡ image
torn_frame image torn = ap (λ front. front ++ drop 9 image) (sym (take-torn 9 35 9 (with_gate 0 []) image torn (lit≤ tt) (lit≤ tt))) ∙ take-append-drop 9 image

torn_gate : (image : List ℕ) → IsTorn 8 1 (with_gate 0 root_frame) image → with_gate (get_or image 8 0) root_frame ≡ image
torn_gate image torn =
    let long : 44 ≤ length image = torn.no_shorter in
    let front : take 8 image ≡ take 8 (with_gate 0 root_frame) = take-torn 8 1 8 (with_gate 0 root_frame) image torn (lit≤ tt) (lit≤ tt) in
    let behind : drop 9 image ≡ root_frame = drop-torn 8 1 (with_gate 0 root_frame) image torn (lit≤ tt) in
    ap (λ front. (front ++ get_or image 8 0 ∷ []) ++ root_frame) (sym front) ∙ ap (λ back. (take 8 image ++ get_or image 8 0 ∷ []) ++ back) (sym behind)
    ∙ ap (λ nine. nine ++ drop 9 image) (sym (take_more image 8 0 (omega (arith, long)))) ∙ take-append-drop 9 image

is_one : (n : ℕ) → (n ≡ 1) ⊎ (n ≢ 1)
is_one zero = inr (λ e. omega (arith, e))
is_one (suc zero) = inl refl
is_one (suc (suc n)) = inr (λ e. omega (arith, e))

by_gate : (gate : ℕ) → (gate ≡ 1) ⊎ (gate ≢ 1) → ReadsBetween 2 [] (Begin man_blocked ∷ []) (with_gate gate root_frame)
by_gate gate (inl one) = subst (λ g. ReadsBetween 2 [] (Begin man_blocked ∷ []) (with_gate g root_frame)) (sym one) (between_all (with_gate 1 root_frame) reads_row)
by_gate gate (inr other) = between_none (with_gate gate root_frame) (reads_closed gate root_frame other)

not_one : ◌≢◌ {A = ℕ} 0 1
not_one e = omega (arith, e)

pub each_between : (stop : Stop) (image : List ℕ) → left_at stop image → ReadsBetween 2 [] (Begin man_blocked ∷ []) image
each_between entry image is = subst (ReadsBetween 2 [] (Begin man_blocked ∷ [])) (sym is) (between_none [] reads_empty)
each_between opened image is = subst (ReadsBetween 2 [] (Begin man_blocked ∷ [])) (sym is) (between_none [] reads_empty)
each_between head_written image torn = let short : length image ≤ 9 = torn.no_longer in between_none image (fresh image short)
each_between head_synced image is = subst (ReadsBetween 2 [] (Begin man_blocked ∷ [])) (sym is) (between_none (with_gate 0 []) (reads_closed 0 [] not_one))
each_between frame_written image torn =
    subst (ReadsBetween 2 [] (Begin man_blocked ∷ [])) (torn_frame image torn) (between_none (with_gate 0 (drop 9 image)) (reads_closed 0 (drop 9 image) not_one))
each_between frame_synced image is = subst (ReadsBetween 2 [] (Begin man_blocked ∷ [])) (sym is) (between_none (with_gate 0 root_frame) (reads_closed 0 root_frame not_one))
each_between gate_written image torn = subst (ReadsBetween 2 [] (Begin man_blocked ∷ [])) (torn_gate image torn) (by_gate (get_or image 8 0) (is_one (get_or image 8 0)))
each_between finished image is = subst (ReadsBetween 2 [] (Begin man_blocked ∷ [])) (sym is) (between_all (with_gate 1 root_frame) reads_row)
