-- A play, ply by ply: what holds of it so far, and what is written of it at its end.
use Rattle.std.proofs.Common.{◌≡◌, ◌<◌, ◌≤◌, ◌+◌, inl, inr, ℕ, Option, List, [], ◌∷◌, ◌++◌, refl, sym, ◌∙◌, ap, subst, append_assoc, arith, length, length-append}
use Rattle.std.specs.Prelude.{All, Bool, Err, Result, false, not, true}
use Rattle.std.specs.Bool.{OnFalse}
use Rattle.std.proofs.lemmas.List.{append-nil}
use Rattle.std.proofs.lemmas.Grind.{flat_map-append}
use Rattle.draughts_board.specs.declared.pieces.Side.{Side}
use Rattle.draughts_board.specs.declared.resolution.ResolveRefusal.{ResolveRefusal}
use Rattle.draughts_board.specs.declared.resolution.ResolveRefusal.TheVariants as meant
use Rattle.draughts_board.specs.Board.{Board, other}
use Rattle.draughts_board.specs.Resolution.{resolve_wants_memory}
use Rattle.draughts_board.specs.Rules.{after}
use Rattle.draughts_board.specs.Game.{Holds, Wins}
use Rattle.draughts_board.specs.Draughts.{draughts}
use Rattle.draughts_board.proofs.Truth.{one_side, other-other}
use Rattle.certificate_player.specs.Choices.{Begins, GoesOn, Makes}
use Rattle.certificate_player.specs.Plays.{IsPlay, LeadOn, Play, here, last_of, positions}
use Rattle.certificate_player.proofs.PlayLemmas.{last_of-push}
use Rattle.pdn_openings.specs.Playing.{meaning_of}
use Rattle.pdn_text.specs.declared.game.MoveText.{MoveText}
use Rattle.strategy_certificate.specs.declared.certificates.Certificate.{Certificate}
use Rattle.strategy_certificate.specs.declared.oracle.Answer.{Answer}
use Rattle.strategy_certificate.specs.Claims.{TellsHold, TellsWin}
use Rattle.strategy_certificate.specs.Tables.{IsSoundTable}
use Rattle.certificate_plays.specs.Lines.{IsMoveLine, SaysMove, lines_of}
use Rattle.certificate_plays.specs.Plays.{IsLineFault, IsPly, LeadTo, PlaysOut, Ply, StopsAt, is_lost, line_of, own, own_moves, own_of, said, said_lines}
use Rattle.certificate_plays.specs.Refusals.{IsPlayFault}
use Rattle.certificate_plays.specs.Steps.{Answers, IsLineRefusal, IsUnheard}
use Rattle.certificate_plays.specs.declared.refusals.LinesRefusal.{LinesRefusal}
use Rattle.certificate_plays.specs.declared.refusals.LinesRefusal.TheVariants.{NotHeld, Line, Memory}

-- ---- one ply

here_after : (answer : Board → Option Answer) (v w : Play) (path : List ℕ) → GoesOn answer v w path → here w ≡ after (here v) path
here_after answer v w path goes =
    ap (λ (c : Certificate). last_of c.position w.later) goes.certificate
    ∙ (ap (λ (qs : List Board). last_of v.certificate.position qs) goes.later ∙ last_of-push v.certificate.position v.later (after (here v) path))

-- the turn passes
pub turn_after : (answer : Board → Option Answer) (v w : Play) (path : List ℕ) → GoesOn answer v w path → (here w).to_move ≡ other (here v).to_move
turn_after answer v w path goes = ap (λ (p : Board). p.to_move) (here_after answer v w path goes)

-- ---- plies

pub LeadTo-append : (answer : Board → Option Answer) (u v w : Play) (one two : List Ply) → LeadTo answer u one v → LeadTo answer v two w → LeadTo answer u (one ++ two) w
LeadTo-append answer u v w [] two led more = subst (λ x. LeadTo answer x two w) (sym led) more
LeadTo-append answer u v w (ply ∷ one) two (x, (first, led)) more = (x, (first, LeadTo-append answer x v w one two led more))

goes_same : (answer : Board → Option Answer) (v : Play) (ply : Ply) (w : Play) → IsPly answer v ply w → (w.certificate ≡ v.certificate) × (w.side ≡ v.side)
goes_same answer v (own path) w by = (by.1.goes_on.certificate, by.1.goes_on.side)
goes_same answer v (said line path) w by = (by.1.1.certificate, by.1.1.side)

-- the certificate and the side stay
pub led_same : (answer : Board → Option Answer) (u : Play) (plies : List Ply) (w : Play) → LeadTo answer u plies w → (w.certificate ≡ u.certificate) × (w.side ≡ u.side)
led_same answer u [] w led = (ap (λ (v : Play). v.certificate) (sym led), ap (λ (v : Play). v.side) (sym led))
led_same answer u (ply ∷ plies) w (v, (first, led)) =
    let one = goes_same answer u ply v first in
    let more = led_same answer v plies w led in
    (more.0 ∙ one.0, more.1 ∙ one.1)

-- ---- the player's answer

pub answers_not : (answer : Board → Option Answer) (v : Play) (moves : List (List ℕ)) → ((here v).to_move ≡ v.side → ⊥) → Answers answer v v moves moves
answers_not answer v moves theirs = record {
  plies = [];
  led = refl;
  own = refl;
  turn = elim (one_side v.side (here v).to_move) [ inl mine ↦ absurd (theirs mine) | inr turn ↦ turn ];
  made = sym (append-nil moves);
}

pub answers_by : (answer : Board → Option Answer) (v w : Play) (path : List ℕ) (before after : List (List ℕ)) → (here v).to_move ≡ v.side → Makes answer v w path → after ≡ before ++ path ∷ []
    → Answers answer v w before after
answers_by answer v w path before after mine makes made = record {
  plies = own path ∷ [];
  led = (w, ((mine, makes), refl));
  own = refl;
  turn = turn_after answer v w path makes.goes_on ∙ ap other (mine ∙ sym makes.goes_on.side);
  made = made;
}

-- ---- a play so far

-- The play stands at `now`, this number of lines was used, and this is left of the source and made.
pub record Comes (answer : Board → Option Answer) (c : Certificate) (side : Side) (source rest : List ℕ) (moves : List (List ℕ)) (number : ℕ) (now : Play) : Type 0 where
  pub start : Play
  pub begins : Begins answer c side start
  pub plies : List Ply
  pub led : LeadTo answer start plies now
  pub turn : (here now).to_move ≡ other now.side
  pub lines : lines_of source ≡ said_lines plies ++ lines_of rest
  pub counted : number ≡ length (said_lines plies)
  pub left : number + length rest ≤ length source
  pub made : moves ≡ own_moves plies

pub certificate_now : (answer : Board → Option Answer) (c : Certificate) (side : Side) (source rest : List ℕ) (moves : List (List ℕ)) (number : ℕ) (now : Play)
    → Comes answer c side source rest moves number now → (now.certificate ≡ c) × (now.side ≡ side)
certificate_now answer c side source rest moves number now so =
    let same = led_same answer so.start so.plies now so.led in
    (same.0 ∙ so.begins.certificate, same.1 ∙ so.begins.side_is)

pub comes_first : (answer : Board → Option Answer) (c : Certificate) (side : Side) (source : List ℕ) (before moves : List (List ℕ)) (start now : Play) → Begins answer c side start
    → before ≡ [] → Answers answer start now before moves → Comes answer c side source source moves 0 now
comes_first answer c side source before moves start now begins at answers = record {
  start = start;
  begins = begins;
  plies = answers.plies;
  led = answers.led;
  turn = answers.turn;
  lines = ap (λ (ls : List (List ℕ)). ls ++ lines_of source) (sym answers.own);
  counted = ap length (sym answers.own);
  left = omega arith;
  made = answers.made ∙ ap (λ (ms : List (List ℕ)). ms ++ own_moves answers.plies) at;
}

pub comes_next : (answer : Board → Option Answer) (c : Certificate) (side : Side) (source rest : List ℕ) (moves : List (List ℕ)) (number : ℕ) (v : Play)
    → Comes answer c side source rest moves number v
    → (line behind path : List ℕ) (u w : Play) (more : List (List ℕ)) → lines_of rest ≡ line ∷ lines_of behind → length behind < length rest
    → SaysMove (here v) line path → GoesOn answer v u path → Answers answer u w moves more
    → Comes answer c side source behind more (number + 1) w
comes_next answer c side source rest moves number v so line behind path u w more split shorter says goes answers =
    let ply : Ply = said line path in
    let next : List Ply = ply ∷ answers.plies in
    let used : said_lines (so.plies ++ next) ≡ said_lines so.plies ++ line ∷ [] =
    flat_map-append line_of so.plies next ∙ ap (λ (ls : List (List ℕ)). said_lines so.plies ++ line ∷ ls) answers.own in
    record {
      start = so.start;
      begins = so.begins;
      plies = so.plies ++ next;
      led = LeadTo-append answer so.start v w so.plies next so.led (u, ((so.turn, (says, goes)), answers.led));
      turn = answers.turn;
      lines = so.lines ∙ (ap (λ (ls : List (List ℕ)). said_lines so.plies ++ ls) split
          ∙ (sym (append_assoc (said_lines so.plies) (line ∷ []) (lines_of behind)) ∙ ap (λ (ls : List (List ℕ)). ls ++ lines_of behind) (sym used)));
      counted = ap (λ n. n + 1) so.counted ∙ (sym (length-append (said_lines so.plies) (line ∷ [])) ∙ ap length (sym used));
      left = omega (arith, so.left, shorter);
      made = answers.made ∙ (ap (λ (ms : List (List ℕ)). ms ++ own_moves answers.plies) so.made ∙ sym (flat_map-append own_of so.plies next));
    }

-- ---- its end

pub comes_out : (answer : Board → Option Answer) (c : Certificate) (side : Side) (source rest : List ℕ) (moves : List (List ℕ)) (number : ℕ) (now : Play) → IsSoundTable draughts c.pieces answer
    → TellsHold side c.claim → Comes answer c side source rest moves number now → rest ≡ [] → IsPlay now → (start_at end_at : Board) → start_at ≡ c.position → end_at ≡ here now
    → PlaysOut c side source start_at moves end_at
comes_out answer c side source rest moves number now sound tells so none valid start_at end_at starts ends =
    let same = certificate_now answer c side source rest moves number now so in
    record {
      own = tells;
      answer = answer;
      sound = sound;
      start = so.start;
      begins = so.begins;
      plies = so.plies;
      end = now;
      led = so.led;
      lines = so.lines ∙ (ap (λ (t : List ℕ). said_lines so.plies ++ lines_of t) none ∙ append-nil (said_lines so.plies));
      starts = starts;
      made = so.made;
      ends = ends;
      turn = ap (λ (p : Board). p.to_move) ends ∙ (so.turn ∙ ap other same.1);
      begun = ap (λ (d : Certificate). d.position ∷ now.later) same.0;
      leads = subst (λ (d : Certificate). LeadOn d.position now.later) same.0 valid.leads;
      holds = subst (λ s. All (Holds draughts s) (positions now)) same.1 valid.holds;
      wins = λ tells. subst (λ s. All (Wins draughts s) (positions now)) same.1
          (valid.wins (subst (λ s. TellsWin s now.certificate.claim) (sym same.1) (subst (λ (d : Certificate). TellsWin side d.claim) (sym same.0) tells)));
    }

-- ---- lines that are refused

pub comes_to_fault : (answer : Board → Option Answer) (c : Certificate) (side : Side) (source rest : List ℕ) (moves : List (List ℕ)) (number : ℕ) (v : Play) → IsSoundTable draughts c.pieces answer
    → TellsHold side c.claim → Comes answer c side source rest moves number v → (line behind : List ℕ) → lines_of rest ≡ line ∷ lines_of behind
    → (r : LinesRefusal) → IsLineRefusal (number + 1) (here v) line r → IsPlayFault c side source r
comes_to_fault answer c side source rest moves number v sound tells so line behind split (Memory error) why = tt
comes_to_fault answer c side source rest moves number v sound tells so line behind split (NotHeld asked) why = absurd why
comes_to_fault answer c side source rest moves number v sound tells so line behind split (Line m q fault) why = record {
  own = tells;
  answer = answer;
  sound = sound;
  start = so.start;
  begins = so.begins;
  plies = so.plies;
  now = v;
  led = so.led;
  stands = sym why.1.0;
  turn = ap (λ (p : Board). p.to_move) why.1.0 ∙ (so.turn ∙ ap other (certificate_now answer c side source rest moves number v so).1);
  line = line;
  more = lines_of behind;
  lines = so.lines ∙ ap (λ (ls : List (List ℕ)). said_lines so.plies ++ ls) split;
  number = why.0 ∙ ap (λ n. n + 1) so.counted;
  fault_is = subst (λ p. IsLineFault p line fault) (sym why.1.0) why.1.1;
}

-- ---- has the mover a move

not_false : (b : Bool) → false ≡ not b → b ≡ true
not_false true same = refl
not_false false same = cc

not_true : (b : Bool) → true ≡ not b → b ≡ false
not_true false same = refl
not_true true same = cc

pub lost_there : (p q : Board) (has : Bool) → q ≡ p → has ≡ not (is_lost q) → has ≡ false → is_lost p ≡ true
lost_there p q has at listed none = subst (λ x. is_lost x ≡ true) at (not_false (is_lost q) (sym none ∙ listed))

pub left_there : (p q : Board) (has : Bool) → q ≡ p → has ≡ not (is_lost q) → has ≡ true → is_lost p ≡ false
left_there p q has at listed some = subst (λ x. is_lost x ≡ false) at (not_true (is_lost q) (sym some ∙ listed))

-- ---- a move that is not heard

pub unheard_is : (n : ℕ) (p q : Board) (line : List ℕ) (written : MoveText) (m : Result (List ℕ) ResolveRefusal) (cause : ResolveRefusal) (r : LinesRefusal) → q ≡ p → is_lost p ≡ false
    → IsMoveLine line written → meaning_of p written ≡ m → OnFalse (resolve_wants_memory cause) (m ≡ Err cause) → IsUnheard n q cause r → IsLineRefusal n p line r
unheard_is n p q line written m meant.Illegal r at left move read means is =
    subst (λ (x : LinesRefusal). IsLineRefusal n p line x) (sym is) (refl, (at, (left, (written, (move, read ∙ means)))))
unheard_is n p q line written m (meant.Ambiguous one another) r at left move read means is =
    subst (λ (x : LinesRefusal). IsLineRefusal n p line x) (sym is) (refl, (at, (left, (written, (move, (one, another, read ∙ means))))))
unheard_is n p q line written m (meant.Memory error) r at left move read means is =
    subst (λ (x : LinesRefusal). IsLineRefusal n p line x) (sym is) tt

-- ---- a player that begins

-- it stands at its certificate's position
pub begins_there : (answer : Board → Option Answer) (v : Play) → Begins answer v.certificate v.side v → here v ≡ v.certificate.position
begins_there answer v begins = ap (λ (qs : List Board). last_of v.certificate.position qs) begins.first

-- it begins its own certificate, for its own side
pub begins_own : (answer : Board → Option Answer) (c : Certificate) (side : Side) (v : Play) → Begins answer c side v → Begins answer v.certificate v.side v
begins_own answer c side v begins =
    subst (λ (d : Certificate). Begins answer d v.side v) (sym begins.certificate) (subst (λ s. Begins answer c s v) (sym begins.side_is) begins)

-- what is answered of its play is answered of the play by that certificate
pub begun_plays : (answer : Board → Option Answer) (c : Certificate) (side : Side) (v : Play) → Begins answer c side v → (source : List ℕ) (start_at : Board) (moves : List (List ℕ)) (end_at : Board)
    → PlaysOut v.certificate v.side source start_at moves end_at → PlaysOut c side source start_at moves end_at
begun_plays answer c side v begins source start_at moves end_at plays =
    subst (λ (d : Certificate). PlaysOut d side source start_at moves end_at) begins.certificate
    (subst (λ s. PlaysOut v.certificate s source start_at moves end_at) begins.side_is plays)

pub begun_fault : (answer : Board → Option Answer) (c : Certificate) (side : Side) (v : Play) → Begins answer c side v → (source : List ℕ) (r : LinesRefusal)
    → IsPlayFault v.certificate v.side source r → IsPlayFault c side source r
begun_fault answer c side v begins source r fault =
    subst (λ (d : Certificate). IsPlayFault d side source r) begins.certificate
    (subst (λ s. IsPlayFault v.certificate s source r) begins.side_is fault)
