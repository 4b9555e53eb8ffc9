-- What workers search by stays what it was, and what a session is that goes on alone behind them.
use Rattle.std.proofs.Common.{◌≡◌, ◌≤◌, ℕ, List, [], ◌∷◌, ◌++◌, map, refl, ap, sym, ◌∙◌, subst}
use Rattle.std.specs.Prelude.{All, false, ◌||◌, Option, Some}
use Rattle.std.specs.Option.{option_map_or}
use Rattle.std.proofs.lemmas.List.Folds.{list_any-append}
use Rattle.std.proofs.lemmas.List.Elements.{All-nil, All-cons}
use Rattle.certificate_checker.specs.declared.outcomes.TheConstants.{MOST_DEPTH}
use Rattle.bench_core.specs.States.{SessionSettings}
use Rattle.bench_core.specs.Cores.{Core}
use Rattle.turn_lock.specs.Growth.{GrowsTo}
use Rattle.tree_manager.specs.declared.entries.Attachment.{Attachment}
use Rattle.tree_manager.specs.declared.entries.Entry.{Entry}
use Rattle.tree_manager.specs.declared.entries.Entry.TheVariants.{Put, Attached, Leased, Released, Acked, Broken}
use Rattle.tree_manager.specs.Entries.{breaks}
use Rattle.tree_manager.specs.Lines.{attachment_of, is_failed}
use Rattle.tree_manager.specs.Histories.{IsCoreOf}
use Rattle.tree_manager.specs.Sessions.{EndsLeases, MayAddInTurn, SessionState}
use Rattle.tree_manager.proofs.SearchLemmas.{pieces_stay, depth_stays}
use Rattle.worker_gate.specs.Work.{CanSearch}
use Rattle.journal_runs.specs.Ends.{GoesOnFrom, IsIdle}

-- ---- the settings of a session

pub attached_more : (line rest : List Entry) (a : Attachment) → attachment_of line ≡ Some a → attachment_of (line ++ rest) ≡ Some a
attached_more [] rest a is = absurd (cc is)
attached_more (Put r ∷ line) rest a is = attached_more line rest a is
attached_more (Attached b ∷ line) rest a is = is
attached_more (Leased l ∷ line) rest a is = attached_more line rest a is
attached_more (Released id ∷ line) rest a is = attached_more line rest a is
attached_more (Acked m ∷ line) rest a is = attached_more line rest a is
attached_more (Broken f ∷ line) rest a is = attached_more line rest a is

-- of a line that goes on from one that stands for this core
pub searches_on : (k : ℕ) (old new : List Entry) (core : Core) → IsCoreOf old core → k ≡ core.state.settings.pieces → core.state.settings.depth ≤ MOST_DEPTH → GoesOnFrom old new → CanSearch k new
searches_on k old new core stands pieces depth went =
    let attached : attachment_of new ≡ Some stands.state.attachment = ap attachment_of went.1 ∙ attached_more old went.0 stands.state.attachment stands.state.attached in
    record {
      tables = pieces ∙ (ap (λ (s : SessionSettings). s.pieces) stands.state.settings ∙ sym (ap (λ (o : Option Attachment). option_map_or (λ a. a.pieces) o 0) attached));
      depth = subst (λ n. n ≤ MOST_DEPTH) (ap (λ (s : SessionSettings). s.depth) stands.state.settings ∙ sym (ap (λ (o : Option Attachment). option_map_or (λ a. a.depth) o 0) attached)) depth;
    }

pub searches_grown : (k : ℕ) (old new : List Entry) → CanSearch k old → GrowsTo MayAddInTurn old new → CanSearch k new
searches_grown k old new h grows = record { tables = h.tables ∙ sym (pieces_stay old new grows); depth = subst (λ n. n ≤ MOST_DEPTH) (sym (depth_stays old new grows)) h.depth }

module _ (k : ℕ) (line : List Entry) (core : Core) (searches : CanSearch k line) (stands : IsCoreOf line core) where
  pub tables_there : k ≡ core.state.settings.pieces
  tables_there = searches.tables ∙ (ap (λ (o : Option Attachment). option_map_or (λ a. a.pieces) o 0) stands.state.attached ∙ sym (ap (λ (s : SessionSettings). s.pieces) stands.state.settings))

  pub depth_there : core.state.settings.depth ≤ MOST_DEPTH
  depth_there =
      subst (λ n. n ≤ MOST_DEPTH) (ap (λ (o : Option Attachment). option_map_or (λ a. a.depth) o 0) stands.state.attached ∙ sym (ap (λ (s : SessionSettings). s.depth) stands.state.settings)) searches.depth

-- ---- leases that are ended

released_added : (ids : List ℕ) → All MayAddInTurn (map Released ids)
released_added [] = All-nil MayAddInTurn
released_added (id ∷ ids) = All-cons MayAddInTurn (Released id) (map Released ids) tt (released_added ids)

released_whole : (ids : List ℕ) → is_failed (map Released ids) ≡ false
released_whole [] = refl
released_whole (id ∷ ids) = released_whole ids

module _ {D : Type 0} (old new : SessionState D) (ends : EndsLeases old new) where
  pub grows_ended : GrowsTo MayAddInTurn old.line new.line
  grows_ended = record { added = map Released ends.ended; whole = sym ends.line; allowed = released_added ends.ended }

  -- behind a commit that was Ok the session is idle
  pub idle_ended : is_failed old.line ≡ false → old.core.staged ≡ [] → (old.core.staged ≡ [] → new.core.state.leases.rows ≡ []) → IsIdle new
  idle_ended works none unleased = record {
    unfailed = ap is_failed ends.line ∙ (list_any-append breaks old.line (map Released ends.ended) ∙ (ap (λ b. b || is_failed (map Released ends.ended)) works ∙ released_whole ends.ended));
    none_staged = ends.staged ∙ none;
    unleased = unleased none;
  }
