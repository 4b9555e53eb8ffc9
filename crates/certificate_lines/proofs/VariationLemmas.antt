-- The variations of a line, and the play behind each.
use Rattle.std.proofs.Common.{◌≡◌, ◌<◌, ◌≤◌, ◌+◌, ℕ, List, [], ◌∷◌, ◌++◌, Option, Some, None, refl, sym, ◌∙◌, ap, subst, arith, length, length-append, append_assoc, append-nil, take, map, if◌then◌else◌}
use Rattle.std.specs.Prelude.{All, Bool, IfOk, IfSome, Result, Ok, Err, true, false, not, ◌==◌, ◌&&◌, nat_lt, get_or, slice_get}
use Rattle.std.specs.declared.alloc.AllocError.{AllocError}
use Rattle.std.proofs.lemmas.List.{map-append, take-append-le}
use Rattle.std.proofs.lemmas.List.Elements.{All-append, All-nil, filter_more}
use Rattle.std.specs.Cmp.Lexicographic.{pointwise}
use Rattle.std.proofs.Math.Seq.{take-append_seam}
use Rattle.draughts_board.specs.declared.pieces.Side.{Side}
use Rattle.draughts_board.specs.declared.pieces.Side.TheVariants.{Black, White}
use Rattle.draughts_board.specs.Board.{Board, IsLawful, other, same_side}
use Rattle.draughts_board.specs.Rules.{IsLegal, after}
use Rattle.draughts_board.specs.Game.{WinsIn}
use Rattle.draughts_board.specs.Draughts.{draughts}
use Rattle.strategy_certificate.specs.declared.certificates.Certificate.{Certificate}
use Rattle.strategy_certificate.specs.declared.certificates.Part.{Part}
use Rattle.strategy_certificate.specs.declared.claims.Claim.{Claim}
use Rattle.strategy_certificate.specs.declared.claims.Claim.TheVariants as claims
use Rattle.strategy_certificate.specs.declared.oracle.Answer.{Answer}
use Rattle.strategy_certificate.specs.Tables.{IsSoundTable}
use Rattle.certificate_player.specs.Choices.{IsNextRank}
use Rattle.certificate_player.specs.Plays.{own_part, own_place}
use Rattle.certificate_player.specs.Sides.{side_of}
use Rattle.certificate_player.proofs.Steps.{follows_in_rank}
use Rattle.certificate_lines.specs.Lines.{IsPly, Leads, mover_part}
use Rattle.certificate_lines.specs.Steps.{AddsVariations, PlaysOn, Stands}
use Rattle.certificate_lines.specs.Variations.{HasVariations, IsVariation, Varies, VariesLine, first_move, fork_of, forks_by, forks_due, is_reply, moves_due, others, varies_by}
use Rattle.certificate_lines.specs.declared.line.Line.{Line}
use Rattle.certificate_lines.specs.declared.variations.Fork.{Fork}
use Rattle.certificate_lines.specs.declared.variations.Variation.{Variation}
use Rattle.certificate_lines.proofs.LineLemmas.{goes_push, leads_push, mover_black, mover_white, replies_go_on, stands_behind, stands_further, stands_holds}

-- ---- the play behind a move

module _ (answer : Board → Option Answer) (part : Part) (p : Board) (rank : Option ℕ) (path : List ℕ) where
  pub play_first : (kept : Option ℕ) → Stands answer part p rank → IsLawful p → p.to_move ≡ other (side_of part) → IsLegal p path → IsNextRank answer (after p path) rank part kept
      → PlaysOn answer part p rank path (path ∷ []) (after p path) kept
  play_first kept stands lawful turn legal next = record {
    behind = [];
    all = refl;
    kept = kept;
    next = next;
    goes = (refl, refl);
    leads = (legal, refl);
    stands = stands_behind answer part p rank stands path kept (replies_go_on answer part p rank stands lawful turn path legal) next;
  }

  pub play_next : (moves : List (List ℕ)) (end : Board) (last : Option ℕ) (m : List ℕ) (kept : Option ℕ) → PlaysOn answer part p rank path moves end last → IsLawful end
      → IsPly answer part end last m kept → PlaysOn answer part p rank path (moves ++ m ∷ []) (after end m) kept
  play_next moves end last m kept on lawful ply = record {
    behind = on.behind ++ m ∷ [];
    all = ap (λ (x : List (List ℕ)). x ++ m ∷ []) on.all;
    kept = on.kept;
    next = on.next;
    goes = goes_push answer part (after p path) end on.kept last kept on.behind m on.goes ply;
    leads = leads_push p end (path ∷ on.behind) m on.leads ply.legal;
    stands = stands_further answer part end last on.stands m kept lawful ply;
  }

  pub play_wins : (end : Board) (last : Option ℕ) → Stands answer part end last → IfSome last (λ r. WinsIn draughts (side_of part) r end)
  play_wins end (Some r) stands = follows_in_rank stands.pieces answer stands.sound part (Some r) end stands.good stands.follows
  play_wins end None stands = tt

  pub play_varies : (varied : ℕ) (v : Variation) → p.to_move ≡ other (side_of part) → PlaysOn answer part p rank path v.moves.items v.end v.rank → v.behind + length v.moves.items ≤ varied → IsVariation answer part p rank varied v
  play_varies varied v turn on short = record {
    turn = turn;
    path = path;
    moves = on.behind;
    all = on.all;
    kept = on.kept;
    next = on.next;
    goes = on.goes;
    leads = subst (λ (x : List (List ℕ)). Leads p x v.end) (sym on.all) on.leads;
    short = short;
    holds = stands_holds answer part v.end v.rank on.stands;
    wins = play_wins v.end v.rank on.stands;
  }

  pub play_begins : (v : Variation) → PlaysOn answer part p rank path v.moves.items v.end v.rank → first_move v ≡ path
  play_begins v on = ap (λ (x : List (List ℕ)). get_or x 0 []) on.all

-- ---- the variations of a ply

one_at : {X : Type 0} (i : ℕ) (y x : X) → i < length (x ∷ []) → x ≡ get_or (x ∷ []) i y
one_at i y x within = (let e : i ≡ 0 = omega (arith, within) in subst (λ n. x ≡ get_or (x ∷ []) n y) (sym e) refl)

All-one : {X : Type 0} (P : X → Type 0) (x : X) → P x → All P (x ∷ [])
All-one P x holds = λ i y within. subst P (one_at i y x within) holds

module _ (answer : Board → Option Answer) (part : Part) (fork : Fork) (varied : ℕ) where
  pub adds_none : (old : List Variation) → AddsVariations answer part fork varied [] old old
  adds_none old = record { added = []; all = sym (append-nil old); each = All-nil _; behind = All-nil _; forks = refl }

  pub adds_one : (moves : List (List ℕ)) (m : List ℕ) (old new : List Variation) (v : Variation) → AddsVariations answer part fork varied moves old new
      → IsVariation answer part fork.position fork.rank varied v → v.behind ≡ fork.behind → first_move v ≡ m
      → AddsVariations answer part fork varied (moves ++ m ∷ []) old (new ++ v ∷ [])
  adds_one moves m old new v adds is behind first = record {
    added = adds.added ++ v ∷ [];
    all = ap (λ (x : List Variation). x ++ v ∷ []) adds.all ∙ append_assoc old adds.added (v ∷ []);
    each = All-append (IsVariation answer part fork.position fork.rank varied) adds.added (v ∷ []) adds.each (All-one (IsVariation answer part fork.position fork.rank varied) v is);
    behind = All-append (λ (x : Variation). x.behind ≡ fork.behind) adds.added (v ∷ []) adds.behind (All-one (λ (x : Variation). x.behind ≡ fork.behind) v behind);
    forks = map-append fork_of adds.added (v ∷ []) ∙ ap (λ (x : List (ℕ × List ℕ)). x ++ fork_of v ∷ []) adds.forks
        ∙ ap (λ (x : ℕ × List ℕ). forks_by fork.behind moves ++ x ∷ []) fork_is
        ∙ sym (map-append (λ (n : List ℕ). (fork.behind, n)) moves (m ∷ []));
  }
    where
      fork_is : fork_of v ≡ (fork.behind, m)
      fork_is = ap (λ (n : ℕ). (n, first_move v)) behind ∙ ap (λ (n : List ℕ). (fork.behind, n)) first

  pub adds_all : (first second : List (List ℕ)) (old mid new : List Variation) → AddsVariations answer part fork varied first old mid → AddsVariations answer part fork varied second mid new
      → AddsVariations answer part fork varied (first ++ second) old new
  adds_all first second old mid new one two = record {
    added = one.added ++ two.added;
    all = two.all ∙ ap (λ (x : List Variation). x ++ two.added) one.all ∙ append_assoc old one.added two.added;
    each = All-append (IsVariation answer part fork.position fork.rank varied) one.added two.added one.each two.each;
    behind = All-append (λ (x : Variation). x.behind ≡ fork.behind) one.added two.added one.behind two.behind;
    forks = map-append fork_of one.added two.added ∙ ap (λ (x : List (ℕ × List ℕ)). x ++ map fork_of two.added) one.forks
        ∙ ap (λ (x : List (ℕ × List ℕ)). forks_by fork.behind first ++ x) two.forks
        ∙ sym (map-append (λ (n : List ℕ). (fork.behind, n)) first second);
  }

  -- no variation for the line's own move
  pub adds_same : (path other : List ℕ) (old : List Variation) → pointwise ◌==◌ other path ≡ true → AddsVariations answer part fork varied (others (other ∷ []) path) old old
  adds_same path other old same =
      subst (λ (b : Bool). AddsVariations answer part fork varied (if not b then other ∷ [] else []) old old) (sym same) (adds_none old)

  -- and one for another
  pub adds_other : (path other : List ℕ) (old new : List Variation) (v : Variation) → pointwise ◌==◌ other path ≡ false → new ≡ old ++ v ∷ []
      → IsVariation answer part fork.position fork.rank varied v → v.behind ≡ fork.behind → first_move v ≡ other → AddsVariations answer part fork varied (others (other ∷ []) path) old new
  adds_other path other old new v differs all is behind first =
      subst (λ (b : Bool). AddsVariations answer part fork varied (if not b then other ∷ [] else []) old new) (sym differs)
      (subst (λ (x : List Variation). AddsVariations answer part fork varied (other ∷ []) old x) (sym all) (adds_one [] other old old v (adds_none old) is behind first))

  -- one move more
  pub adds_more : (moves : List (List ℕ)) (path : List ℕ) (i : ℕ) (x : List ℕ) (old mid new : List Variation) → i < length moves → x ≡ get_or moves i x
      → AddsVariations answer part fork varied (others (take i moves) path) old mid → AddsVariations answer part fork varied (others (x ∷ []) path) mid new
      → AddsVariations answer part fork varied (others (take (i + 1) moves) path) old new
  adds_more moves path i x old mid new within is one two =
      subst (λ (ms : List (List ℕ)). AddsVariations answer part fork varied ms old new)
      (sym (filter_more (λ (m : List ℕ). not (pointwise ◌==◌ m path)) moves i x within
      ∙ ap (λ (m : List ℕ). others (take i moves) path ++ (if not (pointwise ◌==◌ m path) then m ∷ [] else [])) (sym is)))
      (adds_all (others (take i moves) path) (others (x ∷ []) path) old mid new one two)

-- where the part's side is to move no reply is due
no_reply : (side x : Side) → x ≡ side → same_side x (other side) ≡ false
no_reply Black Black is = refl
no_reply White White is = refl
no_reply Black White is = cc
no_reply White Black is = cc

pub adds_no_reply : (answer : Board → Option Answer) (part : Part) (fork : Fork) (varied : ℕ) (side : Side) (path : List ℕ) (old : List Variation) → fork.position.to_move ≡ side
    → AddsVariations answer part fork varied (moves_due (is_reply side fork.position && nat_lt fork.behind varied) fork.position path) old old
adds_no_reply answer part fork varied side path old mine =
    subst (λ (b : Bool). AddsVariations answer part fork varied (moves_due (b && nat_lt fork.behind varied) fork.position path) old old) (sym (no_reply side fork.position.to_move mine))
    (adds_none answer part fork varied old)

-- ---- the variations of a line

due_push : (varies : Board → Bool) (varied n : ℕ) (p q : Board) (moves : List (List ℕ)) (path : List ℕ) → Leads p moves q
    → forks_due varies varied n p (moves ++ path ∷ [])
    ≡ forks_due varies varied n p moves ++ forks_by (n + length moves) (moves_due (varies q && nat_lt (n + length moves) varied) q path)
due_push varies varied n p q [] path leads =
    append-nil _ ∙ (let e : n ≡ n + 0 = omega arith in
    subst (λ (x : Board). forks_by n (moves_due (varies p && nat_lt n varied) p path) ≡ forks_by (n + 0) (moves_due (varies x && nat_lt (n + 0) varied) x path)) leads
    (ap (λ (k : ℕ). forks_by k (moves_due (varies p && nat_lt k varied) p path)) e))
due_push varies varied n p q (m ∷ moves) path leads =
    let here = forks_by n (moves_due (varies p && nat_lt n varied) p m) in
    let e : (n + 1) + length moves ≡ n + length (m ∷ moves) = omega arith in
    ap (λ (x : List (ℕ × List ℕ)). here ++ x) (due_push varies varied (n + 1) (after p m) q moves path leads.1)
    ∙ sym (append_assoc here (forks_due varies varied (n + 1) (after p m) moves)
    (forks_by ((n + 1) + length moves) (moves_due (varies q && nat_lt ((n + 1) + length moves) varied) q path)))
    ∙ ap (λ (k : ℕ). (here ++ forks_due varies varied (n + 1) (after p m) moves) ++ forks_by k (moves_due (varies q && nat_lt k varied) q path)) e

module _ (answer : Board → Option Answer) (part_at : Board → Option Part) (varies : Board → Bool) (varied : ℕ) (start : Board) where
  line_further : (moves : List (List ℕ)) (path : List ℕ) (v : Variation) → VariesLine answer part_at varied start moves v → VariesLine answer part_at varied start (moves ++ path ∷ []) v
  line_further moves path v is = record {
    inside = omega (arith, is.inside, length-append moves (path ∷ []));
    place = is.place;
    there = subst (λ (x : List (List ℕ)). Leads start x is.place) (sym (take-append-le v.behind moves (path ∷ []) (omega (arith, is.inside)))) is.there;
    part = is.part;
    own = is.own;
    rank = is.rank;
    is = is.is;
  }

  line_new : (moves : List (List ℕ)) (path : List ℕ) (part : Part) (fork : Fork) (v : Variation) → Leads start moves fork.position → part_at fork.position ≡ Some part
      → fork.behind ≡ length moves → IsVariation answer part fork.position fork.rank varied v → v.behind ≡ fork.behind → VariesLine answer part_at varied start (moves ++ path ∷ []) v
  line_new moves path part fork v leads own long is behind = record {
    inside = omega (arith, behind, long, length-append moves (path ∷ []));
    place = fork.position;
    there = subst (λ (n : ℕ). Leads start (take n (moves ++ path ∷ [])) fork.position) (sym (behind ∙ long))
        (subst (λ (x : List (List ℕ)). Leads start x fork.position) (sym (take-append_seam moves (path ∷ []))) leads);
    part = part;
    own = own;
    rank = fork.rank;
    is = is;
  }

  pub varies_first : HasVariations answer part_at varies varied start [] []
  varies_first = record { each = All-nil _; all = refl }

  -- a move more, with the variations that are due
  pub varies_next : (moves : List (List ℕ)) (path : List ℕ) (part : Part) (fork : Fork) (old new : List Variation) → HasVariations answer part_at varies varied start moves old
      → Leads start moves fork.position → part_at fork.position ≡ Some part → fork.behind ≡ length moves
      → AddsVariations answer part fork varied (moves_due (varies fork.position && nat_lt fork.behind varied) fork.position path) old new
      → HasVariations answer part_at varies varied start (moves ++ path ∷ []) new
  varies_next moves path part fork old new has leads own long adds = record {
    each = subst (All (VariesLine answer part_at varied start (moves ++ path ∷ []))) (sym adds.all)
        (All-append (VariesLine answer part_at varied start (moves ++ path ∷ [])) old adds.added (λ i v within. line_further moves path (get_or old i v) (has.each i v within))
        (λ i v within. line_new moves path part fork (get_or adds.added i v) leads own long (adds.each i v within) (adds.behind i v within)));
    all = ap (map fork_of) adds.all ∙ map-append fork_of old adds.added ∙ ap (λ (x : List (ℕ × List ℕ)). x ++ map fork_of adds.added) has.all
        ∙ ap (λ (x : List (ℕ × List ℕ)). forks_due varies varied 0 start moves ++ x) (adds.forks ∙ at)
        ∙ sym (due_push varies varied 0 start fork.position moves path leads);
  }
    where
      at : forks_by fork.behind (moves_due (varies fork.position && nat_lt fork.behind varied) fork.position path)
          ≡ forks_by (0 + length moves) (moves_due (varies fork.position && nat_lt (0 + length moves) varied) fork.position path)
      at = (let e : fork.behind ≡ 0 + length moves = omega (arith, long) in
          ap (λ (k : ℕ). forks_by k (moves_due (varies fork.position && nat_lt k varied) fork.position path)) e)

-- the part of the side that is not to move, and that it stands
pub against_stands : (answer : Board → Option Answer) (black white : Part) (p : Board) (side : Side) → p.to_move ≡ side → side_of black ≡ Black → side_of white ≡ White
    → Stands answer black p None → Stands answer white p None → Stands answer (mover_part white black p) p None × (p.to_move ≡ other (side_of (mover_part white black p)))
against_stands answer black white p Black is b w stands others =
    subst (λ (one : Part). Stands answer one p None × (p.to_move ≡ other (side_of one))) (sym (mover_black white black p is)) (others, is ∙ ap other (sym w))
against_stands answer black white p White is b w stands others =
    subst (λ (one : Part). Stands answer one p None × (p.to_move ≡ other (side_of one))) (sym (mover_white white black p is)) (stands, is ∙ ap other (sym b))

-- ---- the variations of a certificate's line

module _ (c : Certificate) (answer : Board → Option Answer) (varied : ℕ) (start : Board) (moves : List (List ℕ)) where
  own_further : (one two : Board → Option Part) → ((p : Board) (part : Part) → one p ≡ Some part → two p ≡ Some part) → (v : Variation)
      → VariesLine answer one varied start moves v → VariesLine answer two varied start moves v
  own_further one two same v is = record { inside = is.inside; place = is.place; there = is.there; part = is.part; own = same is.place is.part is.own; rank = is.rank; is = is.is }

  pub has_further : (one two : Board → Option Part) (varies : Board → Bool) (vs : List Variation) → ((p : Board) (part : Part) → one p ≡ Some part → two p ≡ Some part)
      → HasVariations answer one varies varied start moves vs → HasVariations answer two varies varied start moves vs
  has_further one two varies vs same has = record { each = λ i v within. own_further one two same (get_or vs i v) (has.each i v within); all = has.all }

-- the one part of a certificate that claims a win
won_part : (c : Certificate) (side one : Side) (part : Part) → c.claim ≡ claims.Win side → own_part c side ≡ Some part → own_part c one ≡ Some part
won_part c side one part is there =
    subst (λ (k : Claim). slice_get c.parts (own_place k one) ≡ Some part) (sym is) (subst (λ (k : Claim). slice_get c.parts (own_place k side) ≡ Some part) is there)

pub won_varies : (c : Certificate) (side : Side) (part : Part) (answer : Board → Option Answer) (varied : ℕ) (moves : List (List ℕ)) (vs : List Variation) → IsSoundTable draughts c.pieces answer
    → c.claim ≡ claims.Win side → own_part c side ≡ Some part → HasVariations answer (λ p. Some part) (is_reply side) varied c.position moves vs → Varies c varied moves vs
won_varies c side part answer varied moves vs sound is there has = record {
  answer = answer;
  sound = sound;
  has = subst (λ (k : Claim). HasVariations answer (λ p. own_part c (other p.to_move)) (varies_by k) varied c.position moves vs) (sym is)
      (has_further c answer varied c.position moves (λ p. Some part) (λ p. own_part c (other p.to_move)) (is_reply side) vs (λ p one same. won_part c side (other p.to_move) part is there ∙ same) has);
}

drawn_part : (c : Certificate) (black white : Part) (side : Side) (p : Board) → p.to_move ≡ side → own_part c Black ≡ Some black → own_part c White ≡ Some white
    → own_part c (other p.to_move) ≡ Some (mover_part white black p)
drawn_part c black white Black p is b w = ap (λ (s : Side). own_part c (other s)) is ∙ w ∙ ap (λ (x : Part). Some x) (sym (mover_black white black p is))
drawn_part c black white White p is b w = ap (λ (s : Side). own_part c (other s)) is ∙ b ∙ ap (λ (x : Part). Some x) (sym (mover_white white black p is))

pub drawn_varies : (c : Certificate) (black white : Part) (answer : Board → Option Answer) (varied : ℕ) (moves : List (List ℕ)) (vs : List Variation) → IsSoundTable draughts c.pieces answer
    → c.claim ≡ claims.Draw → own_part c Black ≡ Some black → own_part c White ≡ Some white
    → HasVariations answer (λ p. Some (mover_part white black p)) (λ p. true) varied c.position moves vs → Varies c varied moves vs
drawn_varies c black white answer varied moves vs sound is b w has = record {
  answer = answer;
  sound = sound;
  has = subst (λ (k : Claim). HasVariations answer (λ p. own_part c (other p.to_move)) (varies_by k) varied c.position moves vs) (sym is)
      (has_further c answer varied c.position moves (λ p. Some (mover_part white black p)) (λ p. own_part c (other p.to_move)) (λ p. true) vs
      (λ p one same. drawn_part c black white p.to_move p refl b w ∙ same) has);
}

pub no_varies : (c : Certificate) (answer : Board → Option Answer) (varied : ℕ) → IsSoundTable draughts c.pieces answer → Varies c varied [] []
no_varies c answer varied sound = record { answer = answer; sound = sound; has = varies_first answer (λ p. own_part c (other p.to_move)) (varies_by c.claim) varied c.position }

-- ---- what a call answers

pub won_varied : (c : Certificate) (side : Side) (part : Part) (answer : Board → Option Answer) (varied : ℕ) (found : Result Line AllocError) → IsSoundTable draughts c.pieces answer
    → c.claim ≡ claims.Win side → own_part c side ≡ Some part → IfOk found (λ line. HasVariations answer (λ p. Some part) (is_reply side) varied c.position line.moves.items line.variations.items)
    → IfOk found (λ line. Varies c varied line.moves.items line.variations.items)
won_varied c side part answer varied (Ok line) sound is there has = won_varies c side part answer varied line.moves.items line.variations.items sound is there has
won_varied c side part answer varied (Err e) sound is there has = tt

pub drawn_varied : (c : Certificate) (black white : Part) (answer : Board → Option Answer) (varied : ℕ) (found : Result Line AllocError) → IsSoundTable draughts c.pieces answer
    → c.claim ≡ claims.Draw → own_part c Black ≡ Some black → own_part c White ≡ Some white
    → IfOk found (λ line. HasVariations answer (λ p. Some (mover_part white black p)) (λ p. true) varied c.position line.moves.items line.variations.items)
    → IfOk found (λ line. Varies c varied line.moves.items line.variations.items)
drawn_varied c black white answer varied (Ok line) sound is b w has = drawn_varies c black white answer varied line.moves.items line.variations.items sound is b w has
drawn_varied c black white answer varied (Err e) sound is b w has = tt
