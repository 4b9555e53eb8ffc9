-- What a torn write leaves of a gate and of what stands before it.
use Rattle.std.specs.Prelude.{◌≡◌, ℕ, ◌+◌, ◌<◌, ◌≤◌, List, ◌∷◌, ◌++◌, length, take, drop, get_or}
use Rattle.std.proofs.Common.{sym, ◌∙◌, ap, inl, inr, arith, append_assoc, length-append, length-take, take-append-drop}
use Rattle.std.proofs.lemmas.Bool.{cases_eq}
use Rattle.std.proofs.lemmas.List.{take_at, drop_at, drop_more}
use Rattle.bench_disk.specs.Disk.{IsTorn, written}
use Rattle.bench_disk.specs.Torn.{take-torn, drop-torn, length-written, written_is_torn}
use Rattle.disk_journal.specs.Gate.{IsClosedAt, StaysClosed, IsOpened, IsClosedOrOpened}

-- a write behind the gate
pub torn_behind : (gate n : ℕ) (file image : List ℕ) → IsClosedAt gate file → IsTorn (gate + 1) n file image → StaysClosed gate file image
torn_behind gate n file image shut torn = record {
  front = take-torn (gate + 1) n gate file image torn (omega arith) (omega (arith, shut.within));
  still_closed = record { within = omega (arith, shut.within, torn.no_shorter); closed = λ is. shut.closed (sym (torn.outside gate shut.within (inl (omega arith))) ∙ is) };
}

module _ (gate : ℕ) (file text image : List ℕ) (shut : IsClosedAt gate file) where
  -- the file with the text behind the gate
  abbrev staged : List ℕ
  staged = written file (gate + 1) text

  size : gate + 1 + length text ≤ length staged
  size = omega (arith, length-written file (gate + 1) text, shut.within)

  staged_front : take gate staged ≡ take gate file
  staged_front = take-torn (gate + 1) (length text) gate file staged (written_is_torn file (gate + 1) text) (omega arith) (omega (arith, shut.within))

  staged_back : drop (gate + 1) staged ≡ text ++ drop (gate + 1 + length text) file
  staged_back =
      ap (λ (l : List ℕ). drop (gate + 1) l) (append_assoc (take (gate + 1) file) text (drop (gate + 1 + length text) file))
      ∙ drop_at (take (gate + 1) file) (text ++ drop (gate + 1 + length text) file) (gate + 1) (omega (arith, length-take (gate + 1) file, shut.within))

  -- a write of the gate
  pub torn_gate : IsTorn gate 1 staged image → IsClosedOrOpened gate text file image
  torn_gate torn = elim (cases_eq byte 1) [
    | inl is_open ↦ inr (opened is_open)
    | inr is_closed ↦ inl (record { front = front; still_closed = record { within = within; closed = is_closed } })
  ]
    where
      byte : ℕ
      byte = get_or image gate 0

      within : gate < length image
      within = omega (arith, size, torn.no_shorter)

      front : take gate image ≡ take gate file
      front = take-torn gate 1 gate staged image torn (omega arith) (omega (arith, size)) ∙ staged_front

      back : drop gate image ≡ byte ∷ text ++ drop (gate + 1 + length text) file
      back =
          drop_more image gate 0 within ∙ ap (λ (l : List ℕ). byte ∷ l) (drop-torn gate 1 staged image torn (omega (arith, size)) ∙ staged_back)

      whole : image ≡ (take gate file ++ byte ∷ text) ++ drop (gate + 1 + length text) file
      whole =
          sym (take-append-drop gate image) ∙ ap (λ (l : List ℕ). l ++ drop gate image) front ∙ ap (λ (l : List ℕ). take gate file ++ l) back
          ∙ sym (append_assoc (take gate file) (byte ∷ text) (drop (gate + 1 + length text) file))

      opened : byte ≡ 1 → IsOpened gate text file image
      opened is_open =
          ap (λ (l : List ℕ). take (gate + 1 + length text) l) whole
          ∙ take_at (take gate file ++ byte ∷ text) (drop (gate + 1 + length text) file) (gate + 1 + length text) (omega (arith, length-append (take gate file) (byte ∷ text), length-take gate file, shut.within))
          ∙ ap (λ (b : ℕ). take gate file ++ b ∷ text) is_open
