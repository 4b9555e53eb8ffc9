-- What a player keeps, at the beginning of a play and behind each move.
use Rattle.std.proofs.Common.{◌≡◌, ◌<◌, inl, inr, ℕ, List, [], ◌∷◌, ◌++◌, Option, Some, None, refl, sym, ◌∙◌, ap, subst, map, slice_get, length}
use Rattle.std.specs.Prelude.{All, Contains, IfSome, IsSome, ◌↔◌}
use Rattle.std.proofs.lemmas.List.Elements.{All-cons, All-nil, All-push}
use Rattle.std.proofs.lemmas.Option.{get_or_from_slice_get, slice_get_within}
use Rattle.draughts_board.specs.declared.pieces.Side.{Side}
use Rattle.draughts_board.specs.declared.pieces.Side.TheVariants.{Black, White}
use Rattle.draughts_board.specs.Board.{Board, IsLawful, other}
use Rattle.draughts_board.specs.Rules.{IsLegal, after}
use Rattle.draughts_board.specs.Play.{successors_of}
use Rattle.draughts_board.specs.Game.{Holds, Wins, WinsIn}
use Rattle.draughts_board.specs.Draughts.{draughts}
use Rattle.draughts_board.proofs.Successors.{successor-of_path}
use Rattle.strategy_certificate.specs.declared.certificates.Certificate.{Certificate}
use Rattle.strategy_certificate.specs.declared.certificates.Part.{Part}
use Rattle.strategy_certificate.specs.declared.certificates.Part.TheVariants as part
use Rattle.strategy_certificate.specs.declared.claims.Claim.{Claim}
use Rattle.strategy_certificate.specs.declared.claims.Claim.TheVariants.{Win, Hold, Draw}
use Rattle.strategy_certificate.specs.declared.oracle.Answer.{Answer}
use Rattle.strategy_certificate.specs.Certificates.{HasGoodEntries, HasRoot, IsGood, IsGoodPart, IsTrueOf, claim_of, due_claims}
use Rattle.strategy_certificate.specs.Claims.{TellsHold, TellsWin}
use Rattle.strategy_certificate.specs.Tables.{IsSoundTable}
use Rattle.strategy_certificate.proofs.ClaimLemmas.{told_hold, told_win}
use Rattle.strategy_certificate.proofs.PartLemmas.{good_by_each_table}
use Rattle.strategy_certificate.proofs.Tables.{sound_tables_agree}
use Rattle.certificate_player.specs.Choices.{GoesOnAt, IsChosen, IsNextRank}
use Rattle.certificate_player.specs.Plays.{Follows, IsPlay, LeadOn, Play, here, last_of, own_part, own_place, positions}
use Rattle.certificate_player.specs.Sides.{side_of}
use Rattle.certificate_player.proofs.Steps.{chosen_goes_on, falls_some, follows_in_rank, goes_on_holds, next_falls, next_follows, reply_goes_on}

-- ---- plays

pub last_of-push : (p : Board) (later : List Board) (q : Board) → last_of p (later ++ q ∷ []) ≡ q
last_of-push p [] q = refl
last_of-push p (r ∷ later) q = last_of-push r later q

LeadOn-push : (p : Board) (later : List Board) (q : Board) → LeadOn p later → Contains (successors_of (last_of p later)) q → LeadOn p (later ++ q ∷ [])
LeadOn-push p [] q leads next = (next, tt)
LeadOn-push p (r ∷ later) q leads next = (leads.0, LeadOn-push r later q leads.1 next)

-- ---- the side's part

all_at : {X : Type 0} (P : X → Type 0) (xs : List X) (i : ℕ) (x : X) → All P xs → slice_get xs i ≡ Some x → P x
all_at P xs i x all at = subst P (get_or_from_slice_get xs i x x at) (all i x (slice_get_within xs i x at))

pub some_has : {X : Type 0} (o : Option X) (x : X) (F : X → Type 0) → o ≡ Some x → F x → IfSome o F
some_has o x F is f = subst (λ p. IfSome p F) (sym is) f

pub has_some : {X : Type 0} (o : Option X) (x : X) (F : X → Type 0) → o ≡ Some x → IfSome o F → F x
has_some o x F is f = subst (λ p. IfSome p F) is f

-- what the side's part claims
abbrev own_claim : Claim → Side → Claim
own_claim (Win winner) side = Win winner
own_claim (Hold holder) side = Hold holder
own_claim Draw side = Hold side

pub record IsOwn (parts : List Part) (claim : Claim) (side : Side) (one : Part) : Type 0 where
  pub there : slice_get parts (own_place claim side) ≡ Some one
  pub claims : claim_of one ≡ own_claim claim side

pub own_there : (parts : List Part) (claim : Claim) (side : Side) → map claim_of parts ≡ due_claims claim → (one : Part) × IsOwn parts claim side one
own_there [] (Win w) side due = cc
own_there (one ∷ []) (Win w) side due = (one, record { there = refl; claims = cc })
own_there (one ∷ two ∷ more) (Win w) side due = cc
own_there [] (Hold h) side due = cc
own_there (one ∷ []) (Hold h) side due = (one, record { there = refl; claims = cc })
own_there (one ∷ two ∷ more) (Hold h) side due = cc
own_there [] Draw side due = cc
own_there (one ∷ []) Draw side due = cc
own_there (one ∷ two ∷ []) Draw Black due = (one, record { there = refl; claims = cc })
own_there (one ∷ two ∷ []) Draw White due = (two, record { there = refl; claims = cc })
own_there (one ∷ two ∷ three ∷ more) Draw side due = cc

pub own_is : (parts : List Part) (claim : Claim) (side : Side) (one : Part) → map claim_of parts ≡ due_claims claim → slice_get parts (own_place claim side) ≡ Some one → IsOwn parts claim side one
own_is parts claim side one due there =
    let found = own_there parts claim side due in
    let other = found.1.there in
    let same : found.0 ≡ one = cc in
    subst (IsOwn parts claim side) same found.1

pub own_side : (parts : List Part) (claim : Claim) (side : Side) (one : Part) → TellsHold side claim → IsOwn parts claim side one → side_of one ≡ side
own_side parts (Win w) side (part.Win list) tells own = (let e = own.claims in cc)
own_side parts (Win w) side (part.Hold list) tells own = (let e = own.claims in cc)
own_side parts (Hold h) side (part.Win list) tells own = (let e = own.claims in cc)
own_side parts (Hold h) side (part.Hold list) tells own = (let e = own.claims in cc)
own_side parts Draw side (part.Win list) tells own = (let e = own.claims in cc)
own_side parts Draw side (part.Hold list) tells own = (let e = own.claims in cc)

-- a rank is kept exactly where the side's win is claimed
own_ranked : (parts : List Part) (claim : Claim) (side : Side) (one : Part) (answer : Board → Option Answer) (p : Board) (rank : Option ℕ)
    → TellsHold side claim → IsOwn parts claim side one → Follows answer p rank one → IsSome rank ↔ TellsWin side claim
own_ranked parts (Win w) side (part.Win list) answer p (Some r) tells own follows = (λ _. tells, λ _. refl)
own_ranked parts (Win w) side (part.Win list) answer p None tells own follows = absurd follows
own_ranked parts (Win w) side (part.Hold list) answer p rank tells own follows = (let e = own.claims in cc)
own_ranked parts (Hold h) side (part.Win list) answer p rank tells own follows = (let e = own.claims in cc)
own_ranked parts (Hold h) side (part.Hold list) answer p (Some r) tells own follows = absurd follows
own_ranked parts (Hold h) side (part.Hold list) answer p None tells own follows = (λ some. cc, λ wins. absurd wins)
own_ranked parts Draw side (part.Win list) answer p rank tells own follows = (let e = own.claims in cc)
own_ranked parts Draw side (part.Hold list) answer p (Some r) tells own follows = absurd follows
own_ranked parts Draw side (part.Hold list) answer p None tells own follows = (λ some. cc, λ wins. absurd wins)

-- it is a good part for the certificate's position
pub own_good : (c : Certificate) (side : Side) (one : Part) (answer : Board → Option Answer) → IsGood c → IsSoundTable draughts c.pieces answer → own_part c side ≡ Some one
    → IsGoodPart answer c.position one
own_good c side one answer good sound there =
    all_at (IsGoodPart answer c.position) c.parts (own_place c.claim side) one (good_by_each_table c answer sound good).parts there

pub own_of : (c : Certificate) (side : Side) (one : Part) (answer : Board → Option Answer) → IsGood c → IsSoundTable draughts c.pieces answer → own_part c side ≡ Some one
    → IsOwn c.parts c.claim side one
own_of c side one answer good sound there = own_is c.parts c.claim side one (good_by_each_table c answer sound good).due there

some_wins : (s : Side) (q : Board) (rank : Option ℕ) → IsSome rank → IfSome rank (λ m. WinsIn draughts s m q) → Wins draughts s q
some_wins s q (Some m) some wins = (m, wins)
some_wins s q None some wins = cc

-- ---- what a player keeps

-- by one sound table, so by each
by_each_table : (k : ℕ) (answer other : Board → Option Answer) (found : Option Part) (p : Board) (rank : Option ℕ) → IsSoundTable draughts k answer → IsSoundTable draughts k other
    → IfSome found (Follows answer p rank) → IfSome found (Follows other p rank)
by_each_table k answer other found p rank sound sound' follows =
    let same : answer ≡ other = λ i q. sound_tables_agree draughts k answer other sound sound' q i in
    subst (λ a. IfSome found (Follows a p rank)) same follows

pub play_begins : (c : Certificate) (side : Side) (one : Part) (rank : Option ℕ) (answer : Board → Option Answer)
    → IsGood c → IsTrueOf c.claim c.position → TellsHold side c.claim → IsSoundTable draughts c.pieces answer → own_part c side ≡ Some one → Follows answer c.position rank one
    → IsPlay (record { certificate = c; side = side; later = []; rank = rank })
play_begins c side one rank answer good right tells sound there follows =
    let own = own_of c side one answer good sound there in
    let entries = (own_good c side one answer good sound there).0 in
    record {
      good = good;
      own = tells;
      leads = tt;
      holds = All-cons (Holds draughts side) c.position [] (told_hold c.position side c.claim tells right) (All-nil (Holds draughts side));
      wins = λ wins. All-cons (Wins draughts side) c.position [] (told_win c.position side c.claim wins right) (All-nil (Wins draughts side));
      ranked = own_ranked c.parts c.claim side one answer c.position rank tells own follows;
      in_rank = subst (λ s. IfSome rank (λ m. WinsIn draughts s m c.position)) (own_side c.parts c.claim side one tells own) (follows_in_rank c.pieces answer sound one rank c.position entries follows);
      follows = λ other sound'. by_each_table c.pieces answer other (own_part c side) c.position rank sound sound' (some_has (own_part c side) one (Follows answer c.position rank) there follows);
    }

pub play_goes_on : (v : Play) (one : Part) (q : Board) (rank : Option ℕ) (answer : Board → Option Answer) → IsPlay v
    → IsSoundTable draughts v.certificate.pieces answer → own_part v.certificate v.side ≡ Some one
    → Contains (successors_of (here v)) q → GoesOnAt answer q v.rank one → IsNextRank answer q v.rank one rank
    → IsPlay (record { certificate = v.certificate; side = v.side; later = v.later ++ q ∷ []; rank = rank })
play_goes_on v one q rank answer valid sound there next on kept =
    let c = v.certificate in
    let own = own_of c v.side one answer valid.good sound there in
    let side : side_of one ≡ v.side = own_side c.parts c.claim v.side one valid.own own in
    let entries = (own_good c v.side one answer valid.good sound there).0 in
    let follows : Follows answer q rank one = next_follows answer one q v.rank rank on kept in
    let holds : Holds draughts v.side q = subst (λ s. Holds draughts s q) side (goes_on_holds c.pieces answer sound one v.rank q entries on) in
    let in_rank : IfSome rank (λ m. WinsIn draughts v.side m q) =
    subst (λ s. IfSome rank (λ m. WinsIn draughts s m q)) side (follows_in_rank c.pieces answer sound one rank q entries follows) in
    let some = falls_some v.rank rank (next_falls answer one q v.rank rank on kept) in
    let at : last_of c.position (v.later ++ q ∷ []) ≡ q = last_of-push c.position v.later q in
    record {
      good = valid.good;
      own = valid.own;
      leads = LeadOn-push c.position v.later q valid.leads next;
      holds = All-push (Holds draughts v.side) (positions v) q valid.holds holds;
      wins = λ wins. All-push (Wins draughts v.side) (positions v) q (valid.wins wins) (some_wins v.side q rank (some.1 (valid.ranked.1 wins)) in_rank);
      ranked = (λ h. valid.ranked.0 (some.0 h), λ wins. some.1 (valid.ranked.1 wins));
      in_rank = subst (λ p. IfSome rank (λ m. WinsIn draughts v.side m p)) (sym at) in_rank;
      follows = λ other sound'. by_each_table c.pieces answer other (own_part c v.side) (last_of c.position (v.later ++ q ∷ [])) rank sound sound'
          (subst (λ p. IfSome (own_part c v.side) (Follows answer p rank)) (sym at) (some_has (own_part c v.side) one (Follows answer q rank) there follows));
    }

-- ---- a player's own part

module _ (v : Play) (one : Part) (answer : Board → Option Answer) (valid : IsPlay v) (sound : IsSoundTable draughts v.certificate.pieces answer)
    (there : own_part v.certificate v.side ≡ Some one) where
  pub part_side : side_of one ≡ v.side
  part_side = own_side v.certificate.parts v.certificate.claim v.side one valid.own (own_of v.certificate v.side one answer valid.good sound there)

  pub part_entries : HasGoodEntries one answer
  part_entries = (own_good v.certificate v.side one answer valid.good sound there).0

  pub part_follows : Follows answer (here v) v.rank one
  part_follows = has_some (own_part v.certificate v.side) one (Follows answer (here v) v.rank) there (valid.follows answer sound)

  -- behind a reply
  pub heard_on : IsLawful (here v) → (here v).to_move ≡ other v.side → (path : List ℕ) → IsLegal (here v) path → GoesOnAt answer (after (here v) path) v.rank one
  heard_on lawful theirs path legal =
      reply_goes_on v.certificate.pieces answer sound one v.rank (here v) (after (here v) path) part_entries part_follows (theirs ∙ ap other (sym part_side))
      (successor-of_path (here v) path lawful legal)

  -- behind the side's own move
  pub made_on : (path : List ℕ) → IsChosen answer (here v) v.rank one path → GoesOnAt answer (after (here v) path) v.rank one
  made_on path chosen = (chosen_goes_on v.certificate.pieces answer sound one v.rank (here v) path part_entries chosen).1

-- what a player keeps behind a move of either side
pub play_on : (v : Play) (one : Part) (answer : Board → Option Answer) → IsPlay v → IsSoundTable draughts v.certificate.pieces answer → own_part v.certificate v.side ≡ Some one
    → IsLawful (here v) → (path : List ℕ) → IsLegal (here v) path → GoesOnAt answer (after (here v) path) v.rank one
    → (q : Board) → q ≡ after (here v) path → (rank : Option ℕ) → IsNextRank answer q v.rank one rank
    → IsPlay (record { certificate = v.certificate; side = v.side; later = v.later ++ q ∷ []; rank = rank })
play_on v one answer valid sound there lawful path legal on q is rank kept =
    play_goes_on v one q rank answer valid sound there
    (subst (Contains (successors_of (here v))) (sym is) (successor-of_path (here v) path lawful legal))
    (subst (λ p. GoesOnAt answer p v.rank one) (sym is) on) kept
