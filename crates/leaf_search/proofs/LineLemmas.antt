-- How a part that continues another is put together.
use Rattle.std.proofs.Common.{◌≡◌, inl, inr, ℕ, List, [], ◌∷◌, ◌++◌, Option, refl, sym, ap, ◌∙◌, subst, append_assoc, append-nil}
use Rattle.std.specs.Prelude.{All, Contains}
use Rattle.std.proofs.lemmas.List.Elements.{All-nil, All-cons, All-append, All-weaker, Contains-append_left, Contains-append_right}
use Rattle.draughts_board.specs.Board.{Board, IsLawful}
use Rattle.draughts_board.specs.Draughts.{draughts}
use Rattle.draughts_board.proofs.Members.{Contains-head}
use Rattle.strategy_certificate.specs.declared.oracle.Answer.{Answer}
use Rattle.strategy_certificate.specs.Tables.{TableHolds}
use Rattle.strategy_certificate.specs.Parts.{HoldList, HasEntry}
use Rattle.strategy_certificate.specs.Certificates.{HasDueMove, due_positions, IsHeld, IsGoodHoldEntry, IsGoodHoldPart}
use Rattle.leaf_search.specs.Lines.{Continues, KeepsEntries}

abbrev Row : Type 0
Row = Board × Option (List ℕ)

pub HasEntry-more : (old new : HoldList) → KeepsEntries old new → (q : Board) → HasEntry old.entries q → HasEntry new.entries q
HasEntry-more old new keeps q h =
    (h.0, subst (λ es. Contains es (q, h.0)) (sym keeps.entries) (Contains-append_left old.entries keeps.added (q, h.0) h.1))

module _ (answer : Board → Option Answer) where
  abbrev pub IsGoodRow : HoldList → Row → Type 0
  IsGoodRow part row = IsGoodHoldEntry part answer row.0 row.1

  pub kept : (old new : HoldList) → Continues answer old new → KeepsEntries old new
  kept old new on = record { side = on.side; added = on.added; entries = on.entries }

  pub IsHeld-more : (old new : HoldList) → Continues answer old new → (q : Board) → IsHeld old answer q → IsHeld new answer q
  IsHeld-more old new on q (inl entry) = inl (HasEntry-more old new (kept old new on) q entry)
  IsHeld-more old new on q (inr table) = inr (subst (λ s. TableHolds draughts answer s q) (sym on.side) table)

  good_more : (old new : HoldList) → Continues answer old new → (rows : List Row) → All (IsGoodRow old) rows → All (IsGoodRow new) rows
  good_more old new on rows =
      All-weaker (IsGoodRow old) (IsGoodRow new)
      (λ row good. record {
        lawful = good.lawful;
        move = subst (λ s. HasDueMove s row.0 row.1) (sym on.side) good.move;
        held = All-weaker (IsHeld old answer) (IsHeld new answer) (IsHeld-more old new on) (due_positions row.0 row.1) good.held;
      }) rows

  pub Continues-refl : (part : HoldList) → Continues answer part part
  Continues-refl part = record { side = refl; added = []; entries = sym (append-nil part.entries); good = All-nil (IsGoodRow part) }

  pub Continues-trans : (a b c : HoldList) → Continues answer a b → Continues answer b c → Continues answer a c
  Continues-trans a b c ab bc = record {
    side = bc.side ∙ ab.side;
    added = ab.added ++ bc.added;
    entries = bc.entries ∙ (ap (λ es. es ++ bc.added) ab.entries ∙ append_assoc a.entries ab.added bc.added);
    good = All-append (IsGoodRow c) ab.added bc.added (good_more b c bc ab.added ab.good) bc.good;
  }

  -- an entry was added whose due positions are held in the end
  pub Continues-enter : (old mid new : HoldList) (p : Board) (chosen : Option (List ℕ)) → IsLawful p
      → mid.side ≡ old.side → mid.entries ≡ old.entries ++ (p, chosen) ∷ []
      → Continues answer mid new → HasDueMove old.side p chosen → All (IsHeld new answer) (due_positions p chosen) → Continues answer old new
  Continues-enter old mid new p chosen lawful side entries on move held = record {
    side = on.side ∙ side;
    added = (p, chosen) ∷ on.added;
    entries = on.entries ∙ (ap (λ es. es ++ on.added) entries ∙ append_assoc old.entries ((p, chosen) ∷ []) on.added);
    good = All-cons (IsGoodRow new) (p, chosen) on.added
        (record { lawful = lawful; move = subst (λ s. HasDueMove s p chosen) (sym (on.side ∙ side)) move; held = held })
        on.good;
  }

  -- a part that began empty is good
  pub Continues-from_nil : (old new : HoldList) → old.entries ≡ [] → Continues answer old new → IsGoodHoldPart new answer
  Continues-from_nil old new empty on =
      let e : new.entries ≡ on.added = on.entries ∙ ap (λ es. es ++ on.added) empty in
      subst (All (IsGoodRow new)) (sym e) on.good

  pub HasEntry-entered : (old mid new : HoldList) (p : Board) (chosen : Option (List ℕ))
      → mid.entries ≡ old.entries ++ (p, chosen) ∷ [] → Continues answer mid new → HasEntry new.entries p
  HasEntry-entered old mid new p chosen entries on =
      HasEntry-more mid new (kept mid new on) p
      (chosen, subst (λ es. Contains es (p, chosen)) (sym entries) (Contains-append_right old.entries ((p, chosen) ∷ []) (p, chosen) (Contains-head (p, chosen) [])))
