-- What of a strategy is reached from one position, by its entries alone.
use Rattle.std.specs.Prelude.{◌≡◌, ◌⊎◌, ℕ, zero, suc, List, [], ◌∷◌, Contains, map, Option}
use Rattle.draughts_board.specs.Board.{Board}
use Rattle.strategy_certificate.specs.Parts.{WinList, HoldList, HasEntry, without_rank}
use Rattle.strategy_certificate.specs.Certificates.{due_positions}

-- what parts of both kinds have: positions, each with the move chosen there
abbrev pub Strategy : Type 0
Strategy = List (Board × Option (List ℕ))

-- From the entry of q the strategy goes on to r, which has an entry: by the chosen move, or else by
-- any successor.
pub record GoesOn (rows : Strategy) (q r : Board) : Type 0 where
  pub chosen : Option (List ℕ)
  pub entry : Contains rows (q, chosen)
  pub due : Contains (due_positions q chosen) r
  pub there : HasEntry rows r

-- it leads from p to q, which has an entry, in n steps
abbrev pub LeadsIn : Strategy → Board → ℕ → Board → Type 0
LeadsIn rows p zero q = (p ≡ q) × HasEntry rows q
LeadsIn rows p (suc n) q = (m : Board) × (LeadsIn rows p n m × GoesOn rows m q)

abbrev pub Leads : Strategy → Board → Board → Type 0
Leads rows p q = (n : ℕ) × LeadsIn rows p n q

-- those of the items that meet P, in their order
abbrev pub AreThose : {A : Type 0} → (A → Type 0) → List A → List A → Type 0
AreThose {A} P [] kept = kept ≡ []
AreThose {A} P (x ∷ xs) kept =
    (P x × ((rest : List A) × ((kept ≡ x ∷ rest) × AreThose P xs rest)))
    ⊎ ((P x → ⊥) × AreThose P xs kept)

-- the entries to which entries lead from p, in the part's order
pub record IsTrimmedWin (part : WinList) (p : Board) (kept : WinList) : Type 0 where
  pub side : kept.side ≡ part.side
  pub entries : AreThose (λ row. Leads (map without_rank part.entries) p row.0)
      part.entries kept.entries

pub record IsTrimmedHold (part : HoldList) (p : Board) (kept : HoldList) : Type 0 where
  pub side : kept.side ≡ part.side
  pub entries : AreThose (λ row. Leads part.entries p row.0) part.entries kept.entries
