-- How a line goes on, and where it ends.
use Rattle.std.proofs.Common.{◌≡◌, ◌<◌, ◌≤◌, ◌+◌, ◌⊎◌, inl, inr, ℕ, List, [], ◌∷◌, ◌++◌, Option, Some, None, refl, sym, ◌∙◌, ap, subst, arith, length, length-append, take, if◌then◌else◌}
use Rattle.std.specs.Prelude.{All, Contains, IfNone, IfOk, IfSome, IsSome, IsSomeAnd, MatchOption, Result, Ok, Err, true, get_or}
use Rattle.std.specs.declared.alloc.AllocError.{AllocError}
use Rattle.std.proofs.lemmas.List.Elements.{All-contains, All-nil}
use Rattle.draughts_board.specs.declared.pieces.Side.{Side}
use Rattle.draughts_board.specs.declared.pieces.Side.TheVariants.{Black, White}
use Rattle.draughts_board.specs.Board.{Board, IsLawful, other, same_side}
use Rattle.draughts_board.specs.Rules.{IsLegal, after}
use Rattle.draughts_board.specs.Play.{is_nil, legal_paths, successors_of}
use Rattle.draughts_board.specs.Game.{Holds, WinsIn}
use Rattle.draughts_board.specs.Draughts.{draughts}
use Rattle.draughts_board.proofs.Truth.{not_both_sides, one_side, other-other, Wins-holds}
use Rattle.draughts_board.proofs.Successors.{successor-of_path}
use Rattle.strategy_certificate.specs.declared.certificates.Certificate.{Certificate}
use Rattle.strategy_certificate.specs.declared.certificates.Part.{Part}
use Rattle.strategy_certificate.specs.declared.certificates.Part.TheVariants.{Win, Hold}
use Rattle.strategy_certificate.specs.declared.claims.Claim.{Claim}
use Rattle.strategy_certificate.specs.declared.claims.Claim.TheVariants as claims
use Rattle.strategy_certificate.specs.declared.oracle.Answer.{Answer}
use Rattle.strategy_certificate.specs.Certificates.{HasRoot, IsGood, claim_of}
use Rattle.strategy_certificate.specs.Tables.{IsSoundTable}
use Rattle.strategy_certificate.proofs.PartLemmas.{IsHeld-holds}
use Rattle.certificate_checker.proofs.ListLemmas.{one_more}
use Rattle.certificate_player.specs.Choices.{GoesOnAt, IsChosen, IsFirstRank, IsNextRank}
use Rattle.certificate_player.specs.Plays.{Follows, RankFalls, own_part}
use Rattle.certificate_player.specs.Sides.{side_of}
use Rattle.certificate_player.proofs.PlayLemmas.{IsOwn, own_good, own_of}
use Rattle.certificate_player.proofs.Steps.{chosen_goes_on, follows_in_rank, next_follows, reply_goes_on}
use Rattle.certificate_lines.specs.Lines.{GoesBy, GoesByBoth, IsDrawnLine, IsLineFor, IsLineOf, IsPly, IsWonLine, KeepsNoMore, Leads, mover_part, worth}
use Rattle.certificate_lines.specs.Steps.{GoesOut, HoldsOn, IsLongest, Stands, WinsOut}
use Rattle.certificate_lines.specs.declared.line.Line.{Line}
use Rattle.certificate_lines.specs.declared.replies.Ply.{Ply}

-- ---- ranks

pub falls_further : (before now : Option ℕ) → IsSome before → RankFalls before now → IsSome now × (worth now < worth before)
falls_further (Some r) (Some m) some falls = (refl, falls)
falls_further (Some r) None some falls = absurd falls
falls_further None now some falls = cc

-- ---- replies

pub longer_yet : (answer : Board → Option Answer) (part : Part) (p : Board) (rank k n : Option ℕ) (reply : List ℕ) → worth k ≤ worth n
    → KeepsNoMore answer part p rank k reply → KeepsNoMore answer part p rank n reply
longer_yet answer part p rank k n reply le (least, (next, few)) = (least, (next, omega (arith, le, few)))

all_longer : (answer : Board → Option Answer) (part : Part) (p : Board) (rank k n : Option ℕ) (seen : List (List ℕ)) → worth k ≤ worth n
    → All (KeepsNoMore answer part p rank k) seen → All (KeepsNoMore answer part p rank n) seen
all_longer answer part p rank k n seen le all = λ i x within. longer_yet answer part p rank k n (get_or seen i x) le (all i x within)

-- a loop over the replies, which has come to x at i
module _ (answer : Board → Option Answer) (part : Part) (p : Board) (rank : Option ℕ) (xs : List (List ℕ)) (i : ℕ) (x : List ℕ) (within : i < length xs) (is : x ≡ get_or xs i x)
    (ply : Ply) (result : Ply) (path : ply.path ≡ x) (legal : IsLegal p x) (next : IsNextRank answer (after p x) rank part ply.rank) (falls : RankFalls rank ply.rank)
    (second : worth ply.rank ≤ worth result.rank) where
  seen_more : (k : Option ℕ) → worth k ≤ worth result.rank → All (KeepsNoMore answer part p rank k) (take i xs) → All (KeepsNoMore answer part p rank result.rank) (take (i + 1) xs)
  seen_more k le before =
      one_more (KeepsNoMore answer part p rank result.rank) xs i x within is (all_longer answer part p rank k result.rank (take i xs) le before) (ply.rank, (next, second))

  longest_is : (one : Ply) → IsLegal p one.path → IsNextRank answer (after p one.path) rank part one.rank → RankFalls rank one.rank → result ≡ one
      → All (KeepsNoMore answer part p rank result.rank) (take (i + 1) xs) → IsLongest answer part p rank (take (i + 1) xs) result.path result.rank
  longest_is one one_legal one_next one_falls same seen = record {
    legal = subst (λ (r : Ply). IsLegal p r.path) (sym same) one_legal;
    next = subst (λ (r : Ply). IsNextRank answer (after p r.path) rank part r.rank) (sym same) one_next;
    falls = subst (λ (r : Ply). RankFalls rank r.rank) (sym same) one_falls;
    longest = seen;
  }

  ply_is : result ≡ ply → All (KeepsNoMore answer part p rank result.rank) (take (i + 1) xs) → IsLongest answer part p rank (take (i + 1) xs) result.path result.rank
  ply_is same seen =
      longest_is ply (subst (IsLegal p) (sym path) legal) (subst (λ (m : List ℕ). IsNextRank answer (after p m) rank part ply.rank) (sym path) next) falls same seen

  first_or : (b : Ply) → IsLongest answer part p rank (take i xs) b.path b.rank → (result ≡ b) ⊎ (result ≡ ply) → worth b.rank ≤ worth result.rank
      → IsLongest answer part p rank (take (i + 1) xs) result.path result.rank
  first_or b best (inl same) le = longest_is b best.legal best.next best.falls same (seen_more b.rank le best.longest)
  first_or b best (inr same) le = ply_is same (seen_more b.rank le best.longest)

  pub longest_more : (best : Option Ply) → IfSome best (λ b. IsLongest answer part p rank (take i xs) b.path b.rank) → IfNone best (i ≡ 0)
      → MatchOption best (result ≡ ply) (λ b. (result ≡ b) ⊎ (result ≡ ply)) → IfSome best (λ b. worth b.rank ≤ worth result.rank)
      → IsLongest answer part p rank (take (i + 1) xs) result.path result.rank
  longest_more None before none one first =
      ply_is one (seen_more result.rank (omega arith) (subst (λ n. All (KeepsNoMore answer part p rank result.rank) (take n xs)) (sym none) (All-nil (KeepsNoMore answer part p rank result.rank))))
  longest_more (Some b) before none one first = first_or b before one first

-- ---- behind a ply

module _ (answer : Board → Option Answer) (part : Part) (p : Board) (rank : Option ℕ) (stands : Stands answer part p rank) where
  pub replies_go_on : IsLawful p → p.to_move ≡ other (side_of part) → (path : List ℕ) → IsLegal p path → GoesOnAt answer (after p path) rank part
  replies_go_on lawful theirs path legal =
      reply_goes_on stands.pieces answer stands.sound part rank p (after p path) stands.good stands.follows theirs (successor-of_path p path lawful legal)

  pub chosen_on : (path : List ℕ) → IsChosen answer p rank part path → GoesOnAt answer (after p path) rank part
  chosen_on path chosen = (chosen_goes_on stands.pieces answer stands.sound part rank p path stands.good chosen).1

  pub stands_behind : (path : List ℕ) (kept : Option ℕ) → GoesOnAt answer (after p path) rank part → IsNextRank answer (after p path) rank part kept → Stands answer part (after p path) kept
  stands_behind path kept on next =
      record { pieces = stands.pieces; sound = stands.sound; good = stands.good; follows = next_follows answer part (after p path) rank kept on next }

  ply_by_turn : (path : List ℕ) (kept : Option ℕ) → IsLawful p → IsPly answer part p rank path kept → (p.to_move ≡ side_of part) ⊎ (p.to_move ≡ other (side_of part)) → GoesOnAt answer (after p path) rank part
  ply_by_turn path kept lawful ply (inl mine) = chosen_on path (ply.own mine)
  ply_by_turn path kept lawful ply (inr theirs) = replies_go_on lawful theirs path ply.legal

  pub stands_further : (path : List ℕ) (kept : Option ℕ) → IsLawful p → IsPly answer part p rank path kept → Stands answer part (after p path) kept
  stands_further path kept lawful ply = stands_behind path kept (ply_by_turn path kept lawful ply (one_side (side_of part) p.to_move)) ply.next

-- ---- a move more

pub leads_push : (p q : Board) (moves : List (List ℕ)) (path : List ℕ) → Leads p moves q → IsLegal q path → Leads p (moves ++ path ∷ []) (after q path)
leads_push p q [] path leads legal = (subst (λ (x : Board). IsLegal x path) (sym leads) legal, ap (λ (x : Board). after x path) leads)
leads_push p q (m ∷ moves) path leads legal = (leads.0, leads_push (after p m) q moves path leads.1 legal)

pub goes_push : (answer : Board → Option Answer) (part : Part) (p q : Board) (rank mid kept : Option ℕ) (moves : List (List ℕ)) (path : List ℕ)
    → GoesBy answer part p rank moves q mid → IsPly answer part q mid path kept → GoesBy answer part p rank (moves ++ path ∷ []) (after q path) kept
goes_push answer part p q rank mid kept [] path goes ply = (
  kept,
  (
    subst (λ (x : Board). IsPly answer part x rank path kept) (sym goes.0) (subst (λ (r : Option ℕ). IsPly answer part q r path kept) (sym goes.1) ply),
    (ap (λ (x : Board). after x path) goes.0, refl),
  ),
)
goes_push answer part p q rank mid kept (m ∷ moves) path (k, (first, goes)) ply = (k, (first, goes_push answer part (after p m) q k mid kept moves path goes ply))

pub both_push : (answer : Board → Option Answer) (black white : Part) (p q : Board) (moves : List (List ℕ)) (path : List ℕ)
    → GoesByBoth answer black white p moves q → IsChosen answer q None (mover_part black white q) path → GoesByBoth answer black white p (moves ++ path ∷ []) (after q path)
both_push answer black white p q [] path goes chosen =
    (subst (λ (x : Board). IsChosen answer x None (mover_part black white x) path) (sym goes) chosen, ap (λ (x : Board). after x path) goes)
both_push answer black white p q (m ∷ moves) path goes chosen = (goes.0, both_push answer black white (after p m) q moves path goes.1 chosen)

-- ---- the end

no_moves : (paths : List (List ℕ)) → is_nil paths ≡ true → paths ≡ []
no_moves [] nil = refl
no_moves (x ∷ xs) nil = cc

pub no_successors : (p : Board) → is_nil (legal_paths p) ≡ true → successors_of p ≡ []
unfolding successors_of
no_successors p nil = rw (no_moves (legal_paths p) nil) refl

holds_by : (answer : Board → Option Answer) (part : Part) (p : Board) (rank : Option ℕ) → Stands answer part p rank → Holds draughts (side_of part) p
holds_by answer (Win list) p (Some m) stands =
    Wins-holds draughts list.side p (m, follows_in_rank stands.pieces answer stands.sound (Win list) (Some m) p stands.good stands.follows)
holds_by answer (Win list) p None stands = absurd stands.follows
holds_by answer (Hold list) p (Some m) stands = absurd stands.follows
holds_by answer (Hold list) p None stands = IsHeld-holds stands.pieces answer stands.sound list stands.good p stands.follows

pub stands_holds : (answer : Board → Option Answer) (part : Part) (p : Board) (rank : Option ℕ) → Stands answer part p rank → Holds draughts (side_of part) p
stands_holds = holds_by

-- the side that is to move and has no move is not the part's
pub lost_turn : (answer : Board → Option Answer) (part : Part) (p : Board) (rank : Option ℕ) → Stands answer part p rank → is_nil (legal_paths p) ≡ true → p.to_move ≡ other (side_of part)
lost_turn answer part p rank stands nil = by (one_side (side_of part) p.to_move)
  where
    by : (p.to_move ≡ side_of part) ⊎ (p.to_move ≡ other (side_of part)) → p.to_move ≡ other (side_of part)
    by (inl mine) = absurd (holds_by answer part p rank stands (0, (mine ∙ sym (other-other (side_of part)), no_successors p nil)))
    by (inr theirs) = theirs

-- ---- lines that are played out, and lines that hold on

pub out_first : (answer : Board → Option Answer) (part : Part) (start : Board) (rank : ℕ) → Stands answer part start (Some rank) → GoesOut answer part start rank [] start (Some rank)
out_first answer part start rank stands = record { goes = (refl, refl); leads = refl; within = omega arith; ranked = refl; stands = stands }

pub out_next : (answer : Board → Option Answer) (part : Part) (start : Board) (rank : ℕ) (moves : List (List ℕ)) (end : Board) (last : Option ℕ) (path : List ℕ) (kept : Option ℕ)
    → GoesOut answer part start rank moves end last → IsLawful end → IsPly answer part end last path kept
    → (GoesOut answer part start rank (moves ++ path ∷ []) (after end path) kept) × (worth kept < worth last)
out_next answer part start rank moves end last path kept out lawful ply =
    let further = falls_further last kept out.ranked ply.falls in
    let long = length-append moves (path ∷ []) in (
      record {
        goes = goes_push answer part start end (Some rank) last kept moves path out.goes ply;
        leads = leads_push start end moves path out.leads ply.legal;
        within = omega (arith, out.within, further.1, long);
        ranked = further.0;
        stands = stands_further answer part end last out.stands path kept lawful ply;
      },
      further.1,
    )

pub hold_first : (answer : Board → Option Answer) (black white : Part) (start : Board) → Stands answer black start None → Stands answer white start None → HoldsOn answer black white start 0 [] start
hold_first answer black white start b w = record { goes = refl; leads = refl; long = refl; black_stands = b; white_stands = w }

-- a part that keeps no rank keeps none behind a move
keeps_none : (answer : Board → Option Answer) (part : Part) (p q : Board) → Stands answer part p None → IsNextRank answer q None part None
keeps_none answer (Win list) p q stands = absurd stands.follows
keeps_none answer (Hold list) p q stands = tt

pub mover_black : (black white : Part) (p : Board) → p.to_move ≡ Black → mover_part black white p ≡ black
mover_black black white p is = ap (λ (t : Side). if same_side t Black then black else white) is

pub mover_white : (black white : Part) (p : Board) → p.to_move ≡ White → mover_part black white p ≡ white
mover_white black white p is = ap (λ (t : Side). if same_side t Black then black else white) is

-- the mover's part, and that it stands
pub mover_stands : (answer : Board → Option Answer) (black white : Part) (p : Board) (side : Side) → p.to_move ≡ side → side_of black ≡ Black → side_of white ≡ White
    → Stands answer black p None → Stands answer white p None → Stands answer (mover_part black white p) p None × (p.to_move ≡ side_of (mover_part black white p))
mover_stands answer black white p Black is b w stands other_stands =
    subst (λ (one : Part). Stands answer one p None × (p.to_move ≡ side_of one)) (sym (mover_black black white p is)) (stands, is ∙ sym b)
mover_stands answer black white p White is b w stands other_stands =
    subst (λ (one : Part). Stands answer one p None × (p.to_move ≡ side_of one)) (sym (mover_white black white p is)) (other_stands, is ∙ sym w)

behind_both : (answer : Board → Option Answer) (mine theirs : Part) (p : Board) (path : List ℕ) → IsLawful p → Stands answer mine p None → Stands answer theirs p None
    → p.to_move ≡ other (side_of theirs) → IsChosen answer p None mine path → IsLegal p path → Stands answer mine (after p path) None × Stands answer theirs (after p path) None
behind_both answer mine theirs p path lawful m t turn chosen legal = (
  stands_behind answer mine p None m path None (chosen_on answer mine p None m path chosen) (keeps_none answer mine p (after p path) m),
  stands_behind answer theirs p None t path None (replies_go_on answer theirs p None t lawful turn path legal) (keeps_none answer theirs p (after p path) t),
)

pub hold_next : (answer : Board → Option Answer) (black white : Part) (start : Board) (n : ℕ) (moves : List (List ℕ)) (end : Board) (path : List ℕ)
    → side_of black ≡ Black → side_of white ≡ White → HoldsOn answer black white start n moves end → IsLawful end → IsChosen answer end None (mover_part black white end) path → IsLegal end path
    → HoldsOn answer black white start (n + 1) (moves ++ path ∷ []) (after end path)
hold_next answer black white start n moves end path b w on lawful chosen legal =
    let both = by end.to_move refl in
    let long = length-append moves (path ∷ []) in
    record {
      goes = both_push answer black white start end moves path on.goes chosen;
      leads = leads_push start end moves path on.leads legal;
      long = omega (arith, on.long, long);
      black_stands = both.0;
      white_stands = both.1;
    }
  where
    by : (side : Side) → end.to_move ≡ side → Stands answer black (after end path) None × Stands answer white (after end path) None
    by Black is =
        behind_both answer black white end path lawful on.black_stands on.white_stands (is ∙ ap other (sym w)) (subst (λ (one : Part). IsChosen answer end None one path) (mover_black black white end is) chosen) legal
    by White is =
        (let both = behind_both answer white black end path lawful on.white_stands on.black_stands (is ∙ ap other (sym b))
        (subst (λ (one : Part). IsChosen answer end None one path) (mover_white black white end is) chosen) legal in
        (both.1, both.0))

-- ---- the plies

module _ (answer : Board → Option Answer) (part : Part) (p : Board) (rank : Option ℕ) where
  pub own_is : (path : List ℕ) (kept : Option ℕ) → p.to_move ≡ side_of part → IsLegal p path → IsChosen answer p rank part path → IsNextRank answer (after p path) rank part kept → RankFalls rank kept
      → IsPly answer part p rank path kept
  own_is path kept mine legal chosen next falls = record {
    legal = legal;
    next = next;
    falls = falls;
    own = λ _. chosen;
    reply = λ theirs. absurd (not_both_sides (side_of part) p.to_move mine theirs);
  }

  pub reply_is : (moves : List (List ℕ)) (path : List ℕ) (kept : Option ℕ) → p.to_move ≡ other (side_of part) → ((reply : List ℕ) → IsLegal p reply → Contains moves reply)
      → IsLongest answer part p rank moves path kept → IsPly answer part p rank path kept
  reply_is moves path kept theirs complete best = record {
    legal = best.legal;
    next = best.next;
    falls = best.falls;
    own = λ mine. absurd (not_both_sides (side_of part) p.to_move mine theirs);
    reply = λ _ reply legal. All-contains (KeepsNoMore answer part p rank kept) moves reply best.longest (complete reply legal);
  }

-- the side that is not to move
pub not_mine : (s x : Side) → (x ≡ s → ⊥) → x ≡ other s
not_mine Black Black other = absurd (other refl)
not_mine Black White other = refl
not_mine White Black other = refl
not_mine White White other = absurd (other refl)

-- ---- the line of a certificate

module _ (c : Certificate) (side : Side) (part : Part) (answer : Board → Option Answer) (good : IsGood c) (sound : IsSoundTable draughts c.pieces answer)
    (there : own_part c side ≡ Some part) where
  part_of_win : c.claim ≡ claims.Win side → claim_of part ≡ claims.Win side
  part_of_win is = (subst (λ (k : Claim). IsOwn c.parts k side part) is (own_of c side part answer good sound there)).claims

  part_of_draw : c.claim ≡ claims.Draw → claim_of part ≡ claims.Hold side
  part_of_draw is = (subst (λ (k : Claim). IsOwn c.parts k side part) is (own_of c side part answer good sound there)).claims

  pub starts : (rank : Option ℕ) → Follows answer c.position rank part → Stands answer part c.position rank
  starts rank follows = record { pieces = c.pieces; sound = sound; good = (own_good c side part answer good sound there).0; follows = follows }

  unranked : (one : Part) → claim_of one ≡ claims.Win side → Follows answer c.position None one → ⊥
  unranked (Win list) is follows = follows
  unranked (Hold list) is follows = cc

  pub ranked : c.claim ≡ claims.Win side → Follows answer c.position None part → ⊥
  ranked is = unranked part (part_of_win is)

  held_by_root : (one : Part) → claim_of one ≡ claims.Hold side → HasRoot one answer c.position → Follows answer c.position None one
  held_by_root (Win list) is root = cc
  held_by_root (Hold list) is root = root

  pub holds_there : c.claim ≡ claims.Draw → Stands answer part c.position None
  holds_there is = starts None (held_by_root part (part_of_draw is) (own_good c side part answer good sound there).1)

  pub won_line_is : (rank : ℕ) (moves : List (List ℕ)) (end : Board) → side_of part ≡ side → IsFirstRank answer c.position part (Some rank) → Follows answer c.position (Some rank) part
      → WinsOut answer part c.position rank moves end → IsWonLine c side moves end rank
  won_line_is rank moves end own first follows out = record {
    part = part;
    own = there;
    answer = answer;
    sound = sound;
    first = first;
    last = out.last;
    goes = out.out.goes;
    leads = out.out.leads;
    wins = subst (λ s. WinsIn draughts s rank c.position) own (follows_in_rank c.pieces answer sound part (Some rank) c.position (own_good c side part answer good sound there).0 follows);
    within = omega (arith, out.out.within);
    turn = lost_turn answer part end out.last out.out.stands out.lost ∙ ap other own;
    lost = out.lost;
  }

pub drawn_line_is : (c : Certificate) (black white : Part) (answer : Board → Option Answer) (plies : ℕ) (moves : List (List ℕ)) (end : Board) → IsSoundTable draughts c.pieces answer
    → own_part c Black ≡ Some black → own_part c White ≡ Some white → side_of black ≡ Black → side_of white ≡ White
    → HoldsOn answer black white c.position plies moves end → IsDrawnLine c plies moves end
drawn_line_is c black white answer plies moves end sound there_black there_white b w on = record {
  black = black;
  white = white;
  own_black = there_black;
  own_white = there_white;
  answer = answer;
  sound = sound;
  goes = on.goes;
  leads = on.leads;
  long = on.long;
  drawn = (subst (λ s. Holds draughts s end) b (stands_holds answer black end None on.black_stands), subst (λ s. Holds draughts s end) w (stands_holds answer white end None on.white_stands));
}

-- ---- what a call answers

pub drawn_answer : (c : Certificate) (black white : Part) (answer : Board → Option Answer) (plies : ℕ) (found : Result Line AllocError) → IsSoundTable draughts c.pieces answer
    → own_part c Black ≡ Some black → own_part c White ≡ Some white → side_of black ≡ Black → side_of white ≡ White
    → IfOk found (λ line. HoldsOn answer black white c.position plies line.moves.items line.end) → IfOk found (λ line. IsDrawnLine c plies line.moves.items line.end)
drawn_answer c black white answer plies (Ok line) sound tb tw b w on = drawn_line_is c black white answer plies line.moves.items line.end sound tb tw b w on
drawn_answer c black white answer plies (Err e) sound tb tw b w on = tt

pub won_answer : (c : Certificate) (side : Side) (part : Part) (answer : Board → Option Answer) (rank : ℕ) (found : Result Line AllocError) → IsGood c → IsSoundTable draughts c.pieces answer
    → own_part c side ≡ Some part → side_of part ≡ side → IsFirstRank answer c.position part (Some rank) → Follows answer c.position (Some rank) part
    → IfOk found (λ line. line.rank ≡ Some rank) → IfOk found (λ line. WinsOut answer part c.position rank line.moves.items line.end)
    → IfOk found (λ line. IsSomeAnd line.rank (IsWonLine c side line.moves.items line.end))
won_answer c side part answer rank (Ok line) good sound there own first follows is out =
    subst (λ (o : Option ℕ). IsSomeAnd o (IsWonLine c side line.moves.items line.end)) (sym is)
    (won_line_is c side part answer good sound there rank line.moves.items line.end own first follows out)
won_answer c side part answer rank (Err e) good sound there own first follows is out = tt

module _ (c : Certificate) (plies : ℕ) where
  line_of_win : (side : Side) (moves : List (List ℕ)) (end : Board) (rank : Option ℕ) → IsSomeAnd rank (IsWonLine c side moves end) → IsLineFor (claims.Win side) c plies moves end rank
  line_of_win side moves end (Some r) won = won
  line_of_win side moves end None won = absurd won

  pub win_answer : (side : Side) (found : Result Line AllocError) → c.claim ≡ claims.Win side → IfOk found (λ line. IsSomeAnd line.rank (IsWonLine c side line.moves.items line.end))
      → IfOk found (λ line. IsLineOf c plies line.moves.items line.end line.rank)
  win_answer side (Ok line) is won = subst (λ (k : Claim). IsLineFor k c plies line.moves.items line.end line.rank) (sym is) (line_of_win side line.moves.items line.end line.rank won)
  win_answer side (Err e) is won = tt

  pub draw_answer : (found : Result Line AllocError) → c.claim ≡ claims.Draw → IfOk found (λ line. IsDrawnLine c plies line.moves.items line.end) → IfOk found (λ line. line.rank ≡ None)
      → IfOk found (λ line. IsLineOf c plies line.moves.items line.end line.rank)
  draw_answer (Ok line) is drawn rank = subst (λ (k : Claim). IsLineFor k c plies line.moves.items line.end line.rank) (sym is) (drawn, rank)
  draw_answer (Err e) is drawn rank = tt

  pub no_line : (side : Side) (moves : List (List ℕ)) (end : Board) → c.claim ≡ claims.Hold side → moves ≡ [] → end ≡ c.position → IsLineOf c plies moves end None
  no_line side moves end is none at = subst (λ (k : Claim). IsLineFor k c plies moves end None) (sym is) (none, (at, refl))
