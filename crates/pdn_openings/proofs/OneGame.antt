-- A game has one opening or one fault.
use Rattle.std.proofs.Common.{◌≡◌, ◌∙◌, ℕ, List, take, true, false, Option, Some, None, Result, Ok, Err, refl, sym, subst}
use Rattle.std.specs.Bool.{OnFalse}
use Rattle.std.specs.Prelude.{codes}
use Rattle.std.proofs.lemmas.Bool.{false≢true}
use Rattle.draughts_board.specs.Board.{Board}
use Rattle.draughts_board.specs.declared.resolution.ResolveRefusal.{ResolveRefusal}
use Rattle.draughts_board.specs.declared.resolution.ResolveRefusal.TheVariants as cause
use Rattle.fen_text.specs.declared.refusal.FenRefusal.{FenRefusal}
use Rattle.fen_text.proofs.Verdict.{one_outcome}
use Rattle.pdn_openings.specs.Beginning.{is_other_game, SetsUp, SetsUpNone, BeginsFrom, HasRefusedFen, first_value}
use Rattle.pdn_openings.specs.Faults.{opening_wants_memory, IsOpeningFault, IsMoveFault, StopsAt}
use Rattle.pdn_openings.specs.Openings.{IsOpening}
use Rattle.pdn_openings.specs.Playing.{LeadTo, StopAt}
use Rattle.pdn_openings.specs.declared.opening.Opening.{Opening}
use Rattle.pdn_openings.specs.declared.refusal.OpeningRefusal.{OpeningRefusal}
use Rattle.pdn_openings.specs.declared.refusal.OpeningRefusal.TheVariants.{OtherGame, Fen, Illegal, Ambiguous, Memory}
use Rattle.pdn_openings.proofs.Determined.{one_beginning}
use Rattle.pdn_openings.proofs.Outcome.{SameStop, no_stop, one_stop}
use Rattle.pdn_text.specs.declared.game.Game.{Game}

-- another game and a game of English draughts
not_both : (game : Game) → is_other_game game ≡ true → is_other_game game ≡ false → ⊥
not_both game t f = false≢true (sym f ∙ t)

-- ---- where a game begins

setup_or_fault : (o : Option (List ℕ)) (p : Board) (fault : FenRefusal) → SetsUp o p → SetsUpNone o fault → ⊥
setup_or_fault None p fault a b = b
setup_or_fault (Some text) p fault a b = let e : ◌≡◌ {A = Result Board FenRefusal} (Ok p) (Err fault) = one_outcome text (Ok p) (Err fault) a b in absurd (cc)

one_setup_fault : (o : Option (List ℕ)) (e f : FenRefusal) → SetsUpNone o e → SetsUpNone o f → e ≡ f
one_setup_fault None e f a b = absurd a
one_setup_fault (Some text) e f a b = let same : ◌≡◌ {A = Result Board FenRefusal} (Err e) (Err f) = one_outcome text (Err e) (Err f) a b in cc

begins_or_not : (game : Game) (p : Board) (fault : FenRefusal) → BeginsFrom game p → HasRefusedFen game fault → ⊥
begins_or_not game p fault a b = setup_or_fault (first_value (codes "FEN") game.tags) p fault a b

one_bad_fen : (game : Game) (e f : FenRefusal) → HasRefusedFen game e → HasRefusedFen game f → e ≡ f
one_bad_fen game e f a b = one_setup_fault (first_value (codes "FEN") game.tags) e f a b

-- ---- where its moves stop

stop_from : (plies : ℕ) (game : Game) (start : Board) (ply at : ℕ) (why : ResolveRefusal) → BeginsFrom game start
    → StopsAt plies game ply at why → StopAt start (take plies game.moves) ply at why
stop_from plies game start ply at why begins h =
    subst (λ p. StopAt p (take plies game.moves) ply at why) (one_beginning game h.0 start h.1.0 begins) h.1.1

leads_or_stops : (plies number : ℕ) (game : Game) (opening : Opening) (ply at : ℕ) (why : ResolveRefusal) → IsOpening plies number game opening
    → StopsAt plies game ply at why → ⊥
leads_or_stops plies number game opening ply at why is h =
    no_stop is.start opening.position (take plies game.moves) ply at why is.led (stop_from plies game is.start ply at why is.begins h)

same_stop : (plies : ℕ) (game : Game) (ply at : ℕ) (why : ResolveRefusal) (ply' at' : ℕ) (why' : ResolveRefusal)
    → StopsAt plies game ply at why → StopsAt plies game ply' at' why' → SameStop ply at why ply' at' why'
same_stop plies game ply at why ply' at' why' a b =
    one_stop a.0 (take plies game.moves) ply at why ply' at' why' a.1.1 (stop_from plies game a.0 ply' at' why' a.1.0 b)

-- ---- its opening, or its fault

pub opening_or_fault : (plies number : ℕ) (game : Game) (opening : Opening) (fault : OpeningRefusal) → IsOpening plies number game opening
    → IsOpeningFault plies number game fault → ⊥
opening_or_fault plies number game opening (OtherGame n) is h = not_both game h.1 is.english
opening_or_fault plies number game opening (Fen n fault) is h = begins_or_not game is.start fault is.begins h.2
opening_or_fault plies number game opening (Illegal n ply at) is h = leads_or_stops plies number game opening ply at cause.Illegal is h.2
opening_or_fault plies number game opening (Ambiguous n ply at) is h = leads_or_stops plies number game opening ply at (cause.Ambiguous h.2.0 h.2.1) is h.2.2
opening_or_fault plies number game opening (Memory error) is h = h

pub one_fault : (plies number : ℕ) (game : Game) (e f : OpeningRefusal) → IsOpeningFault plies number game e → IsOpeningFault plies number game f → e ≡ f
one_fault plies number game (OtherGame n) (OtherGame m) a b = let same = a.0 ∙ sym b.0 in λ i. OtherGame (same i)
one_fault plies number game (OtherGame n) (Fen m f) a b = absurd (not_both game a.1 b.1)
one_fault plies number game (OtherGame n) (Illegal m ply at) a b = absurd (not_both game a.1 b.1)
one_fault plies number game (OtherGame n) (Ambiguous m ply at) a b = absurd (not_both game a.1 b.1)
one_fault plies number game (Fen n e) (OtherGame m) a b = absurd (not_both game b.1 a.1)
one_fault plies number game (Fen n e) (Fen m f) a b = let same = a.0 ∙ sym b.0 in let faults = one_bad_fen game e f a.2 b.2 in λ i. Fen (same i) (faults i)
one_fault plies number game (Fen n e) (Illegal m ply at) a b = absurd (begins_or_not game b.2.0 e b.2.1.0 a.2)
one_fault plies number game (Fen n e) (Ambiguous m ply at) a b = absurd (begins_or_not game b.2.2.0 e b.2.2.1.0 a.2)
one_fault plies number game (Illegal n ply at) (OtherGame m) a b = absurd (not_both game b.1 a.1)
one_fault plies number game (Illegal n ply at) (Fen m f) a b = absurd (begins_or_not game a.2.0 f a.2.1.0 b.2)
one_fault plies number game (Illegal n ply at) (Illegal m ply' at') a b =
    let same = a.0 ∙ sym b.0 in
    let stop = same_stop plies game ply at cause.Illegal ply' at' cause.Illegal a.2 b.2 in
    let counted = stop.plies in let places = stop.places in λ i. Illegal (same i) (counted i) (places i)
one_fault plies number game (Illegal n ply at) (Ambiguous m ply' at') a b =
    let stop = same_stop plies game ply at cause.Illegal ply' at' (cause.Ambiguous b.2.0 b.2.1) a.2 b.2.2 in
    let e : cause.Illegal ≡ cause.Ambiguous b.2.0 b.2.1 = stop.causes in absurd (cc)
one_fault plies number game (Ambiguous n ply at) (OtherGame m) a b = absurd (not_both game b.1 a.1)
one_fault plies number game (Ambiguous n ply at) (Fen m f) a b = absurd (begins_or_not game a.2.2.0 f a.2.2.1.0 b.2)
one_fault plies number game (Ambiguous n ply at) (Illegal m ply' at') a b =
    let stop = same_stop plies game ply at (cause.Ambiguous a.2.0 a.2.1) ply' at' cause.Illegal a.2.2 b.2 in
    let e : cause.Ambiguous a.2.0 a.2.1 ≡ cause.Illegal = stop.causes in absurd (cc)
one_fault plies number game (Ambiguous n ply at) (Ambiguous m ply' at') a b =
    let same = a.0 ∙ sym b.0 in
    let stop = same_stop plies game ply at (cause.Ambiguous a.2.0 a.2.1) ply' at' (cause.Ambiguous b.2.0 b.2.1) a.2.2 b.2.2 in
    let counted = stop.plies in let places = stop.places in λ i. Ambiguous (same i) (counted i) (places i)
one_fault plies number game (Memory error) f a b = absurd a
one_fault plies number game e (Memory error) a b = absurd b

-- a fault of its moves is the game's, where it is one of English draughts and begins from a position
pub move_fault : (plies number : ℕ) (game : Game) (start : Board) (fault : OpeningRefusal) → is_other_game game ≡ false → BeginsFrom game start
    → OnFalse (opening_wants_memory fault) (IsMoveFault number start (take plies game.moves) fault) → OnFalse (opening_wants_memory fault) (IsOpeningFault plies number game fault)
move_fault plies number game start (OtherGame n) english begins h = absurd h
move_fault plies number game start (Fen n f) english begins h = absurd h
move_fault plies number game start (Illegal n ply at) english begins h = (h.0, english, (start, (begins, h.1)))
move_fault plies number game start (Ambiguous n ply at) english begins h = (h.0, english, (h.1.0, h.1.1, (start, (begins, h.1.2))))
move_fault plies number game start (Memory error) english begins h = tt
