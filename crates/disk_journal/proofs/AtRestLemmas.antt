-- A journal at rest gains a frame.
use Rattle.std.specs.Prelude.{◌≡◌, ℕ, ◌+◌, List, [], ◌∷◌, ◌++◌, length, take, drop}
use Rattle.std.specs.List.{flat_map}
use Rattle.std.proofs.Common.{sym, ◌∙◌, ap, subst, inl, inr, arith, length-append, length-take}
use Rattle.std.proofs.lemmas.List.{take_at, flat_map_more}
use Rattle.bench_disk.specs.Disk.{NothingPending}
use Rattle.disk_journal.specs.Format.{behind_gate, frame, journal_front, file_head, HasPayloads, IsFrame, IsJournal, StandsBetween, StandsForEither}
use Rattle.disk_journal.specs.Gate.{gate_text, IsClosedAt, IsClosedOrOpened, IsOpened}
use Rattle.disk_journal.specs.Log.{IsAtRest}
use Rattle.disk_journal.proofs.JournalLemmas.{all_more, becomes_journal, closed_gate, has_payloads, prefix_append, prefix_same, stays_journal}

-- an open gate with the text behind it, as it is written over a closed one
pub opened_text : (gate : ℕ) (file text new : List ℕ) → IsClosedAt gate file → new ≡ take gate file ++ 1 ∷ text ++ drop (gate + 1 + length text) file → IsOpened gate text file new
opened_text gate file text new shut is =
    ap (λ (l : List ℕ). take (gate + 1 + length text) l) is
    ∙ take_at (take gate file ++ 1 ∷ text) (drop (gate + 1 + length text) file) (gate + 1 + length text) (omega (arith, length-append (take gate file) (1 ∷ text), length-take gate file, shut.within))

-- a file that stands for one of two lists of payloads stands between them
pub either_between : (pieces : ℕ) (payloads staged : List (List ℕ)) (image : List ℕ) → StandsForEither pieces payloads (payloads ++ staged) image → StandsBetween pieces payloads (payloads ++ staged) image
either_between pieces payloads staged image (inl before) = (payloads, before, prefix_same payloads, prefix_append payloads staged)
either_between pieces payloads staged image (inr after) = (payloads ++ staged, after, prefix_append payloads staged, prefix_same (payloads ++ staged))

-- the frame of what is staged is one frame more
pub frame_more : (pieces gate : ℕ) (frames : List (List (List ℕ))) (staged : List (List ℕ)) (file text new : List ℕ) → IsFrame staged → text ≡ gate_text staged → gate ≡ length (journal_front pieces frames)
    → IsJournal pieces frames file → new ≡ take gate file ++ 1 ∷ text ++ drop (gate + 1 + length text) file → IsJournal pieces (frames ++ staged ∷ []) new
frame_more pieces gate frames staged file text new is_frame is_text place journal is =
    becomes_journal pieces frames staged file new gate place journal is_frame
    (subst (λ t. IsOpened gate t file new) is_text (opened_text gate file text new (closed_gate pieces frames file gate place journal) is))

module _ {D : Type 0} (reads : D → List ℕ) (images : D → List ℕ → Type 0) (disk : D) (pieces gate : ℕ) (payloads : List (List ℕ)) (rest : IsAtRest reads images disk pieces gate payloads) where
  pub gate_is_closed : IsClosedAt gate (reads disk)
  gate_is_closed = closed_gate pieces rest.frames (reads disk) gate rest.place rest.journal

  module _ (staged : List (List ℕ)) (text : List ℕ) (is_frame : IsFrame staged) (is_text : text ≡ gate_text staged) where
    abbrev frames : List (List (List ℕ))
    frames = rest.frames ++ staged ∷ []

    abbrev all : List (List ℕ)
    all = payloads ++ staged

    gains : (image : List ℕ) → IsOpened gate text (reads disk) image → IsJournal pieces frames image
    gains image opened = becomes_journal pieces rest.frames staged (reads disk) image gate rest.place rest.journal is_frame (subst (λ t. IsOpened gate t (reads disk) image) is_text opened)

    all_are : all ≡ flat_map (λ f. f) frames
    all_are = ap (λ (l : List (List ℕ)). l ++ staged) rest.all ∙ sym (all_more rest.frames staged)

    -- each image of the append stands for the payloads, or for all that are then there
    pub either : (image : List ℕ) → IsClosedOrOpened gate text (reads disk) image → StandsForEither pieces payloads all image
    either image (inl stays) =
        inl (subst (HasPayloads pieces image) (sym rest.all) (has_payloads pieces rest.frames image (stays_journal pieces rest.frames (reads disk) image gate rest.place rest.journal stays)))
    either image (inr opened) = inr (subst (HasPayloads pieces image) (sym all_are) (has_payloads pieces frames image (gains image opened)))

    pub at_rest_next : (new : D) (next : ℕ) → next ≡ gate + length text → reads new ≡ take gate (reads disk) ++ 1 ∷ text ++ drop (gate + 1 + length text) (reads disk) → NothingPending (reads new) (images new)
        → IsAtRest reads images new pieces next all
    at_rest_next new next at is only = record {
      frames = frames;
      journal = gains (reads new) (opened_text gate (reads disk) text (reads new) gate_is_closed is);
      place =
          omega (
            arith,
            at,
            rest.place,
            ap length (sym (flat_map_more frame (file_head pieces) rest.frames staged)),
            length-append (journal_front pieces rest.frames) (frame staged),
            ap length is_text,
            length-append (behind_gate staged) (0 ∷ []),
          );
      all = all_are;
      settled = only;
    }
