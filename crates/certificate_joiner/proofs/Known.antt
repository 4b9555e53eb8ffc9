-- What is known of a position is true, and how it is shown.
use Rattle.std.proofs.Common.{◌≡◌, ℕ, ◌≤◌, ◌⊎◌, inl, inr, List, [], refl, sym, ◌∙◌, ap, subst, true, false, Option, None}
use Rattle.std.specs.Prelude.{Contains, All}
use denote.Bor.{Bor}
use Rattle.std.proofs.lemmas.Bool.{false≢true}
use Rattle.std.proofs.lemmas.List.Elements.{All-contains, All-nil}
use Rattle.draughts_board.specs.Board.{Board, IsLawful, other, same_side, piece_count}
use Rattle.draughts_board.specs.Game.{Wins, WinsIn, Holds}
use Rattle.draughts_board.specs.Draughts.{draughts}
use Rattle.draughts_board.specs.Play.{successors_of}
use Rattle.draughts_board.specs.Same.{same_side-Decides}
use Rattle.draughts_board.specs.declared.pieces.Side.{Side}
use Rattle.draughts_board.proofs.Truth.{Wins-holds}
use Rattle.draughts_board.proofs.Members.{Contains-head, Contains-nil}
use Rattle.strategy_certificate.specs.declared.oracle.Answer.{Answer}
use Rattle.strategy_certificate.specs.declared.claims.Claim.{Claim}
use Rattle.strategy_certificate.specs.declared.claims.Claim.TheVariants as claims
use Rattle.strategy_certificate.specs.declared.certificates.Part.{Part}
use Rattle.strategy_certificate.specs.declared.certificates.Part.TheVariants as part
use Rattle.strategy_certificate.specs.declared.certificates.Certificate.{Certificate}
use Rattle.strategy_certificate.specs.Tables.{IsSoundTable}
use Rattle.strategy_certificate.specs.Parts.{WinList}
use Rattle.strategy_certificate.specs.Certificates.{claim_of, IsReached}
use Rattle.strategy_certificate.proofs.GoodMerges.{good_wins_hold}
use Rattle.certificate_joiner.specs.Growing.{IsReachedWithin}
use Rattle.strategy_certificate.proofs.PartLemmas.{good_win_parts_win, good_hold_parts_hold}
use Rattle.certificate_joiner.specs.declared.steps.Aim.{Aim}
use Rattle.certificate_joiner.specs.declared.steps.Aim.TheVariants.{Win, Hold}
use Rattle.certificate_joiner.specs.declared.steps.Reason.TheVariants.{Table, Shown, Play}
use Rattle.strategy_certificate.specs.declared.entries.TheConstants.{MOST_FOUND_RANK}
use Rattle.strategy_certificate.specs.Claims.{HasShortRanks}
use Rattle.certificate_joiner.specs.Certified.{IsShelved}
use Rattle.certificate_joiner.specs.Steps.{PlaysTo, PartShowsWin, PartShowsHold, IsUsable, part_side}
use Rattle.certificate_joiner.specs.Strategy.{part_shows, IsShowingPart, ShowsNone, ShowsBy, Tells, StandsAtSight, IsKnown}
use Rattle.certificate_joiner.proofs.AtSight.{at_sight_cases, table_wins, table_holds, theirs_without_move}
use Rattle.certificate_joiner.proofs.Given.{found_part, good_part, gives_told_win, gives_hold, both_due}
use Rattle.certificate_joiner.proofs.LowRanks.{ranks_are_low}

module _ (k : ℕ) (few : k ≤ 3) (s : Side) (p : Board) (shown : List Certificate) where
  -- ---- what is known is true

  abbrev IsTrueFor : Aim → Type 0
  IsTrueFor Win = Wins draughts s p
  IsTrueFor Hold = Holds draughts s p

  shelved_at : (aim : Aim) → IsKnown k aim s p shown → (c : Certificate) → Contains shown c → IsShelved k p c
  shelved_at aim known c there = All-contains (IsShelved k p) shown c known.shelved there

  known_win : (answer : Board → Option Answer) → IsSoundTable draughts k answer → IsKnown k Win s p shown → Wins draughts s p
  known_win answer sound known =
      elim known.fact [
        | inl sight ↦ sight.1
        | inr (c, (there, claim)) ↦ (
            let gives = gives_told_win k p c (shelved_at Win known c there) s claim in
            let here = gives.here answer sound in
            (here.0, subst (λ t. WinsIn draughts t here.0 p) gives.side (good_win_parts_win k answer sound gives.list (gives.good answer sound) here.0 p here.1)))
      ]

  known_hold : (answer : Board → Option Answer) → IsSoundTable draughts k answer → IsKnown k Hold s p shown → Holds draughts s p
  known_hold answer sound known =
      elim known.fact [
        | inl (inl none) ↦ absurd (Contains-nil p none)
        | inl (inr sight) ↦ sight.1
        | inr (c, (there, claim)) ↦ (
            let gives = gives_hold k p c (shelved_at Hold known c there) s claim in
            subst (λ t. Holds draughts t p) gives.side (good_hold_parts_hold k answer sound gives.list (gives.good answer sound) p (gives.here answer sound)))
      ]

  -- ---- by the table

  pub known_by_table : (aim : Aim) → IsKnown k aim s p shown → piece_count p ≤ k → (before later : List Board) → ShowsBy aim k s before later p Table
  known_by_table Win known least before later =
      λ answer sound. let table = table_wins k answer sound s p known.lawful least (known_win answer sound known) in
      (table.0, (ranks_are_low k few answer sound s table.0 p table.1, table.1))
  known_by_table Hold known least before later =
      λ answer sound. table_holds k answer sound s p known.lawful least (known_hold answer sound known)

  -- ---- by a part

  win_claim : (one : Part) → part_shows Win s one ≡ true → claim_of one ≡ claims.Win s
  win_claim (part.Win list) t = ap claims.Win ((same_side-Decides list.side s).0 t)
  win_claim (part.Hold list) t = absurd (false≢true t)

  hold_claim : (one : Part) → part_shows Hold s one ≡ true → (claim_of one ≡ claims.Win s) ⊎ (claim_of one ≡ claims.Hold s)
  hold_claim (part.Win list) t = inl (ap claims.Win ((same_side-Decides list.side s).0 t))
  hold_claim (part.Hold list) t = inr (ap claims.Hold ((same_side-Decides list.side s).0 t))

  root_low : (list : WinList) → All (λ row. row.1.rank ≤ MOST_FOUND_RANK) list.entries → (answer : Board → Option Answer) → IsSoundTable draughts k answer
      → (r : ℕ) → IsReached list answer r p → IsReachedWithin list answer (MOST_FOUND_RANK) p
  root_low list short answer sound r (inl (e, (there, is))) = (e.rank, (All-contains (λ row. row.1.rank ≤ MOST_FOUND_RANK) list.entries (p, e) short there, inl (e, (there, refl))))
  root_low list short answer sound r (inr table) = (r, (ranks_are_low k few answer sound list.side r p table, inr table))

  module _ (c : Certificate) (shelved : IsShelved k p c) where
    win_shown : (one : Part) → Contains c.parts one → claim_of one ≡ claims.Win s → PartShowsWin k s p one
    win_shown (part.Win list) there is =
        let short = All-contains HasShortRanks c.parts (part.Win list) shelved.short there in
        record {
          side = cc;
          ranks = short;
          good = λ answer sound. (good_part k p c shelved answer sound (part.Win list) there).0;
          here = λ answer sound. let root = (good_part k p c shelved answer sound (part.Win list) there).1 in root_low list short answer sound root.0 root.1;
        }
    win_shown (part.Hold list) there is = absurd (cc)

    hold_shown : (one : Part) → Contains c.parts one → (claim_of one ≡ claims.Win s) ⊎ (claim_of one ≡ claims.Hold s) → PartShowsHold k s p one
    hold_shown (part.Win list) there (inl is) = record {
      side = cc;
      good = λ answer sound. (good_wins_hold answer list (good_part k p c shelved answer sound (part.Win list) there).0).0;
      here = λ answer sound. let both = good_part k p c shelved answer sound (part.Win list) there in (good_wins_hold answer list both.0).1 both.1.0 p both.1.1;
    }
    hold_shown (part.Win list) there (inr is) = absurd (cc)
    hold_shown (part.Hold list) there (inl is) = absurd (cc)
    hold_shown (part.Hold list) there (inr is) = record {
      side = cc;
      good = λ answer sound. (good_part k p c shelved answer sound (part.Hold list) there).0;
      here = λ answer sound. (good_part k p c shelved answer sound (part.Hold list) there).1;
    }

  pub known_by_part : (aim : Aim) → IsKnown k aim s p shown → (one : Bor Part) → IsShowingPart aim s shown one.now → (before later : List Board) → ShowsBy aim k s before later p (Shown one)
  known_by_part Win known one found before later =
      win_shown found.among.0 (shelved_at Win known found.among.0 found.among.1.0) one.now found.among.1.1 (win_claim one.now found.shows)
  known_by_part Hold known one found before later =
      hold_shown found.among.0 (shelved_at Hold known found.among.0 found.among.1.0) one.now found.among.1.1 (hold_claim one.now found.shows)

  shows_side : (aim : Aim) (one : Part) → part_shows aim s one ≡ true → part_side one ≡ s
  shows_side Win (part.Win list) t = (same_side-Decides list.side s).0 t
  shows_side Hold (part.Win list) t = (same_side-Decides list.side s).0 t
  shows_side Win (part.Hold list) t = absurd (false≢true t)
  shows_side Hold (part.Hold list) t = (same_side-Decides list.side s).0 t

  pub part_is_usable : (aim : Aim) (one : Bor Part) → IsShowingPart aim s shown one.now → IsUsable s (Shown one)
  part_is_usable aim one found = (shows_side aim one.now found.shows, found.distinct)

  -- ---- by no move

  abbrev NoPart : Aim → Type 0
  NoPart aim = All (ShowsNone aim s) shown

  same-true : same_side s s ≡ true
  same-true = (same_side-Decides s s).1 refl

  claim_shows : (aim : Aim) (one : Part) → (claim_of one ≡ claims.Win s) ⊎ ((claim_of one ≡ claims.Hold s) × (aim ≡ Hold)) → part_shows aim s one ≡ true
  claim_shows Win (part.Win list) (inl is) = (same_side-Decides list.side s).1 (cc)
  claim_shows Hold (part.Win list) (inl is) = (same_side-Decides list.side s).1 (cc)
  claim_shows aim (part.Hold list) (inl is) = absurd (cc)
  claim_shows aim (part.Win list) (inr is) = absurd (let e = is.0 in cc)
  claim_shows Hold (part.Hold list) (inr is) = (same_side-Decides list.side s).1 (let e = is.0 in cc)
  claim_shows Win (part.Hold list) (inr is) = absurd (let e = is.1 in cc)

  -- a certificate that claims it has such a part
  abbrev HasPart : Aim → Certificate → Type 0
  HasPart aim c = (one : Part) × (Contains c.parts one × (part_shows aim s one ≡ true))

  told_part : (aim : Aim) (c : Certificate) → IsShelved k p c → (claim : Claim) → c.claim ≡ claim → Tells aim s claim → HasPart aim c
  told_part Win c shelved (claims.Win t) is tells =
      let found = found_part k p c shelved (claims.Win s) (claims.Win s) (is ∙ ap claims.Win tells) (Contains-head (claims.Win s) []) in
      (found.0, (found.1.0, claim_shows Win found.0 (inl found.1.1)))
  told_part Win c shelved (claims.Hold t) is tells = absurd tells
  told_part Win c shelved claims.Draw is tells = absurd tells
  told_part Hold c shelved (claims.Win t) is tells =
      let found = found_part k p c shelved (claims.Win s) (claims.Win s) (is ∙ ap claims.Win tells) (Contains-head (claims.Win s) []) in
      (found.0, (found.1.0, claim_shows Hold found.0 (inl found.1.1)))
  told_part Hold c shelved (claims.Hold t) is tells =
      let found = found_part k p c shelved (claims.Hold s) (claims.Hold s) (is ∙ ap claims.Hold tells) (Contains-head (claims.Hold s) []) in
      (found.0, (found.1.0, claim_shows Hold found.0 (inr (found.1.1, refl))))
  told_part Hold c shelved claims.Draw is tells =
      let found = found_part k p c shelved (claims.Hold s) claims.Draw is (both_due k p c shelved s) in
      (found.0, (found.1.0, claim_shows Hold found.0 (inr (found.1.1, refl))))

  sight_left : (aim : Aim) → IsKnown k aim s p shown → NoPart aim → StandsAtSight aim k s p
  sight_left aim known none =
      elim known.fact [
        | inl sight ↦ sight
        | inr (c, (there, claim)) ↦ absurd (
            let one = told_part aim c (shelved_at aim known c there) c.claim refl claim in
            false≢true (sym (All-contains (λ one. part_shows aim s one ≡ false) c.parts one.0 (All-contains (ShowsNone aim s) shown c none there) one.1.0) ∙ one.1.1))
      ]

  no_move : (aim : Aim) → StandsAtSight aim k s p → (piece_count p ≤ k → ⊥) → (successors_of p ≡ []) × (p.to_move ≡ other s)
  no_move Win sight many =
      elim (at_sight_cases k p sight.0) [ inl none ↦ (none, theirs_without_move s p none (Wins-holds draughts s p sight.1)) | inr least ↦ absurd (many least) ]
  no_move Hold (inl none) many = absurd (Contains-nil p none)
  no_move Hold (inr sight) many =
      elim (at_sight_cases k p sight.0) [ inl none ↦ (none, theirs_without_move s p none sight.1) | inr least ↦ absurd (many least) ]

  plays_nothing : (later : List Board) → IsLawful p → (successors_of p ≡ []) × (p.to_move ≡ other s) → PlaysTo s later p None
  plays_nothing later lawful none = record {
    lawful = lawful;
    move = none.1;
    leads = subst (All (Contains later)) (sym none.0) (All-nil (Contains later));
  }

  pub known_by_no_move : (aim : Aim) → IsKnown k aim s p shown → NoPart aim → (piece_count p ≤ k → ⊥) → (before later : List Board) → ShowsBy aim k s before later p (Play None)
  known_by_no_move Win known none many before later = plays_nothing later known.lawful (no_move Win (sight_left Win known none) many)
  known_by_no_move Hold known none many before later = plays_nothing later known.lawful (no_move Hold (sight_left Hold known none) many)
