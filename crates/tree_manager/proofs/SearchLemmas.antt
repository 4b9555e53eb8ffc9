-- The settings of a line's session stay as it grows, and its leases have them.
use Rattle.std.proofs.Common.{◌≡◌, ℕ, List, [], ◌∷◌, ◌++◌, refl, ap, sym, ◌∙◌, subst}
use Rattle.std.specs.Prelude.{false, All, Option, None, Result, Ok, Err, IfOk}
use Rattle.std.specs.Option.{option_map_or}
use Rattle.std.proofs.lemmas.List.Elements.{All-head, All-tail}
use Rattle.draughts_board.specs.Draughts.{draughts}
use Rattle.draughts_board.specs.Game.{is_at_sight}
use Rattle.lease_table.specs.declared.leases.Lease.{Lease}
use Rattle.bench_core.specs.declared.refusals.LeaseRefusal.{LeaseRefusal}
use Rattle.bench_core.specs.States.{CoreState, SessionSettings, lease_answer}
use Rattle.tree_manager.specs.declared.entries.Attachment.{Attachment}
use Rattle.tree_manager.specs.declared.entries.Entry.{Entry}
use Rattle.tree_manager.specs.declared.entries.Entry.TheVariants.{Put, Attached, Leased, Released, Acked, Broken}
use Rattle.tree_manager.specs.Lines.{attachment_of, session_pieces, session_depth}
use Rattle.tree_manager.specs.Sessions.{MayAddInTurn}
use Rattle.tree_manager.specs.Turns.{GrowsByTurns, AnswersWorker, AsksForSearch, Leases}
use Rattle.tree_manager.proofs.PickLemmas.{lease_settings}

-- ---- no turn adds an Attached

none_attached : (added : List Entry) → All MayAddInTurn added → attachment_of added ≡ None
none_attached [] all = refl
none_attached (Put r ∷ es) all = none_attached es (All-tail MayAddInTurn (Put r) es all)
none_attached (Attached a ∷ es) all = absurd (All-head MayAddInTurn (Attached a) es all)
none_attached (Leased l ∷ es) all = none_attached es (All-tail MayAddInTurn (Leased l) es all)
none_attached (Released id ∷ es) all = none_attached es (All-tail MayAddInTurn (Released id) es all)
none_attached (Acked m ∷ es) all = none_attached es (All-tail MayAddInTurn (Acked m) es all)
none_attached (Broken f ∷ es) all = none_attached es (All-tail MayAddInTurn (Broken f) es all)

attached_before : (line added : List Entry) → All MayAddInTurn added → attachment_of (line ++ added) ≡ attachment_of line
attached_before [] added all = none_attached added all
attached_before (Put r ∷ line) added all = attached_before line added all
attached_before (Attached a ∷ line) added all = refl
attached_before (Leased l ∷ line) added all = attached_before line added all
attached_before (Released id ∷ line) added all = attached_before line added all
attached_before (Acked m ∷ line) added all = attached_before line added all
attached_before (Broken f ∷ line) added all = attached_before line added all

pub attachment_stays : (old new : List Entry) → GrowsByTurns old new → attachment_of new ≡ attachment_of old
attachment_stays old new grows = subst (λ line. attachment_of line ≡ attachment_of old) grows.whole (attached_before old grows.added grows.allowed)

pub pieces_stay : (old new : List Entry) → GrowsByTurns old new → session_pieces new ≡ session_pieces old
pieces_stay old new grows = ap (λ (o : Option Attachment). option_map_or (λ a. a.pieces) o 0) (attachment_stays old new grows)

pub depth_stays : (old new : List Entry) → GrowsByTurns old new → session_depth new ≡ session_depth old
depth_stays old new grows = ap (λ (o : Option Attachment). option_map_or (λ a. a.depth) o 0) (attachment_stays old new grows)

-- ---- a lease

-- an answer in the state of a line that goes on from the front, and what the session's call says of it
pub asks_for_search : (front found : List Entry) (s : CoreState) (worker : ℕ) (given : Lease) → GrowsByTurns front found → AnswersWorker worker (Ok given) found
    → lease_answer s worker ≡ Ok given → is_at_sight draughts s.settings.pieces given.position ≡ false → AsksForSearch front given
asks_for_search front found s worker given grows answers answered sight =
    let settings = lease_settings answers.core.state worker given answers.holds in
    let state = answers.stands.state in
    let attached = sym (attachment_stays front found grows) ∙ state.attached in
    record {
      pieces = settings.0 ∙ (ap (λ (x : SessionSettings). x.pieces) state.settings ∙ sym (ap (λ (o : Option Attachment). option_map_or (λ a. a.pieces) o 0) attached));
      depth = settings.1 ∙ (ap (λ (x : SessionSettings). x.depth) state.settings ∙ sym (ap (λ (o : Option Attachment). option_map_or (λ a. a.depth) o 0) attached));
      undecided = subst (λ k. is_at_sight draughts k given.position ≡ false) (sym (lease_settings s worker given answered).0) sight;
    }

-- the pass enters, and the session answers
pub leased_asks_for_search : (front entered found left : List Entry) (s : CoreState) (worker : ℕ) (answer : Result Lease LeaseRefusal) → GrowsByTurns front entered → entered ≡ found → Leases found left worker answer
    → IfOk answer (λ given. lease_answer s worker ≡ Ok given) → IfOk answer (λ given. is_at_sight draughts s.settings.pieces given.position ≡ false) → IfOk answer (AsksForSearch front)
leased_asks_for_search front entered found left s worker (Ok given) entering whole turn answered sight =
    asks_for_search front found s worker given (subst (λ line. GrowsByTurns front line) whole entering) turn.1 answered sight
leased_asks_for_search front entered found left s worker (Err refusal) entering whole turn answered sight = tt
