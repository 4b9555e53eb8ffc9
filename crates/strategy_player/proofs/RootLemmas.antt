-- From the certificate of a root to the play by it.
use Rattle.std.proofs.Common.{◌≡◌, ◌-◌, inl, inr, ℕ, List, Option, Some, refl, sym, ◌∙◌, ap, subst, slice_get}
use Rattle.std.specs.Prelude.{Bool, true, false, IfErr, IfOk, Result, Ok, Err}
use Rattle.std.specs.Bool.{OnFalse}
use Rattle.shared_words.specs.Answers.{Unless}
use Rattle.shared_words.specs.Counts.{Rose}
use Rattle.shared_words.proofs.Exactness.{on_false}
use Rattle.bench_disk.specs.declared.disk.Disk.{Ghosts}
use Rattle.bench_disk.specs.Disk.{IsHonest}
use Rattle.disk_journal.specs.declared.refusal.JournalRefusal.TheVariants.{DiskFault, NotAJournal, OtherTable, Damaged, Memory}
use Rattle.draughts_board.specs.declared.pieces.Side.{Side}
use Rattle.draughts_board.specs.declared.pieces.Side.TheVariants.{Black, White}
use Rattle.draughts_board.specs.declared.pieces.Value.{Value}
use Rattle.draughts_board.specs.declared.pieces.Value.TheVariants as value
use Rattle.draughts_board.specs.Board.{other}
use Rattle.certificate_joiner.specs.Certified.{claim_for}
use Rattle.opening_report.specs.declared.written.Written.{Written}
use Rattle.proof_tree.specs.Forest.{Forest, Node, nodes, value_of}
use Rattle.strategy_certificate.specs.declared.certificates.Certificate.{Certificate}
use Rattle.strategy_certificate.specs.Claims.{TellsHold, TellsWin}
use Rattle.certificate_plays.specs.Refusals.{IsPlayFault}
use Rattle.certificate_plays.specs.declared.refusals.LinesRefusal.{LinesRefusal}
use Rattle.certificate_plays.specs.declared.refusals.LinesRefusal.TheVariants as lines
use Rattle.journal_looks.specs.Looks.{AnswersEach, BlamesNoFile, Certifies, ExplainsNoCertificate, HasNoCertificate, HasSettledRoot}
use Rattle.journal_looks.specs.Looks as looks
use Rattle.journal_looks.specs.declared.refusals.LookRefusal.{LookRefusal}
use Rattle.journal_looks.specs.declared.refusals.LookRefusal.TheVariants.{Journal, NoRoot, UnsettledRoot}
use Rattle.journal_looks.proofs.FileLemmas.{forest_once}
use Rattle.strategy_player.specs.Refusals.{of_journal_look, of_play}
use Rattle.strategy_player.specs.Runs.{AcceptsRoot, AnswersCauses, HasRootWorth, IsRefusedBy, IsRefusedRoot, RefusesNoLine, Shows, says_nothing, won_by}
use Rattle.strategy_player.specs.Texts.{WritesOut}
use Rattle.strategy_player.specs.declared.refusals.PlayRefusal.{PlayRefusal}
use Rattle.strategy_player.specs.declared.refusals.PlayRefusal.TheVariants.{Run, NotHeld, Line}

-- ---- looks

-- a look's refusal says as much of the file as the run's
nothing_same : (r : LookRefusal) → looks.says_nothing r ≡ says_nothing (of_journal_look r)
nothing_same (Journal DiskFault) = refl
nothing_same (Journal NotAJournal) = refl
nothing_same (Journal (OtherTable found asked)) = refl
nothing_same (Journal (Damaged at)) = refl
nothing_same (Journal (Memory error)) = refl
nothing_same (NoRoot n) = refl
nothing_same (UnsettledRoot n) = refl

-- the cause that the look has is the answer
pub look_answers : (T S : Type 0) (r cause : LookRefusal) → Unless {T = S} looks.says_nothing (Err r) (◌≡◌ {A = Result S LookRefusal} (Err r) (Err cause))
    → Unless {T = T} says_nothing (Err (of_journal_look r)) (◌≡◌ {A = Result T PlayRefusal} (Err (of_journal_look r)) (Err (of_journal_look cause)))
look_answers T S r cause answers =
    subst (λ (b : Bool). OnFalse b (◌≡◌ {A = Result T PlayRefusal} (Err (of_journal_look r)) (Err (of_journal_look cause)))) (nothing_same r)
    (on_false (looks.says_nothing r) (◌≡◌ {A = Result S LookRefusal} (Err r) (Err cause)) (◌≡◌ {A = Result T PlayRefusal} (Err (of_journal_look r)) (Err (of_journal_look cause)))
    (λ same. (let e : r ≡ cause = cc in ap (λ (x : LookRefusal). Err (of_journal_look x)) e)) answers)

pub look_silent : (r : LookRefusal) → looks.says_nothing r ≡ true → says_nothing (of_journal_look r) ≡ true
look_silent r silent = sym (nothing_same r) ∙ silent

pub unless_silent : (T : Type 0) (r : PlayRefusal) (P : Type 0) → says_nothing r ≡ true → Unless {T = T} says_nothing (Err r) P
unless_silent T r P silent = subst (λ (b : Bool). OnFalse b P) (sym silent) tt

pub no_error : {T : Type 0} (value : T) (e : LookRefusal) → ◌≡◌ {A = Result T LookRefusal} (Ok value) (Err e) → ⊥
no_error value e same = cc

-- ---- values

same_some : {X : Type 0} (x y : X) → Some x ≡ Some y → x ≡ y
same_some x y same = cc

-- the certificate is one of the file's one root
root_once : (file : List ℕ) (n : ℕ) (c : Certificate) → (certified : Certifies file n c) → (settled : HasSettledRoot file n) → certified.claims.root ≡ settled.root
root_once file n c certified settled =
    let roots = certified.roots in
    let same : roots ≡ settled.roots = forest_once certified.pieces settled.pieces file roots settled.roots certified.has settled.has in
    let there = subst (λ (f : Forest). slice_get (nodes f) (n - 1) ≡ Some certified.claims.root) same certified.claims.there.1 in
    same_some certified.claims.root settled.root (sym there ∙ settled.there.1)

-- it is of the root's position, and claims its one value
claims_position : (file : List ℕ) (n : ℕ) (c : Certificate) → Certifies file n c → (settled : HasSettledRoot file n) → c.position ≡ settled.root.own.position
claims_position file n c certified settled =
    certified.claims.joined.position ∙ ap (λ (x : Node). x.own.position) (root_once file n c certified settled)

pub claims_value : (file : List ℕ) (n : ℕ) (c : Certificate) → Certifies file n c → (settled : HasSettledRoot file n) → c.claim ≡ claim_for settled.value
claims_value file n c certified settled =
    let one = root_once file n c certified settled in
    let value : certified.claims.value ≡ settled.value =
    same_some certified.claims.value settled.value (sym certified.claims.settled ∙ (ap (λ (x : Node). value_of x) one ∙ settled.settled)) in
    certified.claims.joined.claims ∙ ap claim_for value

-- a value that is not the other side's win is held by the side, and the other side's win is not
held_by : (v : Value) (side : Side) → (v ≡ won_by (other side) → ⊥) → TellsHold side (claim_for v)
held_by value.BlackWins Black lost = refl
held_by value.BlackWins White lost = absurd (lost refl)
held_by value.WhiteWins Black lost = absurd (lost refl)
held_by value.WhiteWins White lost = refl
held_by value.Draw side lost = tt

lost_by : (side : Side) → TellsHold side (claim_for (won_by (other side))) → ⊥
lost_by Black tells = cc
lost_by White tells = cc

pub certificate_holds : (file : List ℕ) (n : ℕ) (c : Certificate) (side : Side) → Certifies file n c → (settled : HasSettledRoot file n) → (settled.value ≡ won_by (other side) → ⊥) → TellsHold side c.claim
certificate_holds file n c side certified settled lost =
    subst (TellsHold side) (sym (claims_value file n c certified settled)) (held_by settled.value side lost)

won_by_told : (side : Side) → TellsWin side (claim_for (won_by side))
won_by_told Black = refl
won_by_told White = refl

certificate_wins : (file : List ℕ) (n : ℕ) (c : Certificate) (side : Side) → Certifies file n c → HasRootWorth file n (won_by side) → TellsWin side c.claim
certificate_wins file n c side certified (settled, won) =
    subst (TellsWin side) (sym (claims_value file n c certified settled ∙ ap claim_for won)) (won_by_told side)

pub certificate_loses : (file : List ℕ) (n : ℕ) (c : Certificate) (side : Side) → Certifies file n c → HasRootWorth file n (won_by (other side)) → TellsHold side c.claim → ⊥
certificate_loses file n c side certified (settled, lost) tells =
    lost_by side (subst (TellsHold side) (claims_value file n c certified settled ∙ ap claim_for lost) tells)

-- ---- refused plays

-- a play by a certificate of a root that the other side wins is refused for that
pub lost_answers : (T : Type 0) (file : List ℕ) (n : ℕ) (c : Certificate) (side : Side) (source : List ℕ) (cause : LinesRefusal) → Certifies file n c → HasRootWorth file n (won_by (other side))
    → IsPlayFault c side source cause → Unless {T = T} says_nothing (Err (of_play cause)) (◌≡◌ {A = Result T PlayRefusal} (Err (of_play cause)) (Err (NotHeld side)))
lost_answers T file n c side source (lines.Memory error) certified lost why = tt
lost_answers T file n c side source (lines.NotHeld asked) certified lost why = ap (λ (s : Side). Err (NotHeld s)) why.0
lost_answers T file n c side source (lines.Line m p fault) certified lost why = absurd (certificate_loses file n c side certified lost why.own)

-- where the side holds and no line is refused, memory ran out
pub held_silent : (file : List ℕ) (n : ℕ) (c : Certificate) (side : Side) (source : List ℕ) (cause : LinesRefusal) → Certifies file n c → (settled : HasSettledRoot file n)
    → (settled.value ≡ won_by (other side) → ⊥) → RefusesNoLine file n side source → IsPlayFault c side source cause → says_nothing (of_play cause) ≡ true
held_silent file n c side source (lines.Memory error) certified settled lost none why = refl
held_silent file n c side source (lines.NotHeld asked) certified settled lost none why = absurd (why.1 (certificate_holds file n c side certified settled lost))
held_silent file n c side source (lines.Line m p fault) certified settled lost none why = absurd (none c certified m p fault why)

-- ---- the play of a root

module _ {D : Type 0} (g : Ghosts D) (root : ℕ) (side : Side) (source : List ℕ) (old new : D) where
  -- by the certificate that the look gave
  module _ (c : Certificate) (certified : IsHonest g.TELLS → Certifies (g.reads old) root c) where
    pub play_shows : (answer : Result Written PlayRefusal) → IfOk answer (λ w. WritesOut c side source w.text.items) → IfOk answer (λ w. Shows g root side source old w.text.items)
    play_shows (Ok w) plays = record {
      certificate = c;
      certifies = certified;
      plays = plays;
      begins = λ honest settled. plays.plays.starts ∙ claims_position (g.reads old) root c (certified honest) settled;
      wins = λ honest worth. plays.plays.wins (certificate_wins (g.reads old) root c side (certified honest) worth);
    }
    play_shows (Err r) plays = tt

    pub play_refused : (answer : Result Written PlayRefusal) → IfErr answer (IsRefusedBy c side source) → IfErr answer (IsRefusedRoot g root side source old new)
    play_refused (Ok w) why = tt
    play_refused (Err r) why = inr (record { certificate = c; certifies = certified; why = why })

    play_lost : (answer : Result Written PlayRefusal) → IfOk answer (λ w. WritesOut c side source w.text.items) → IfErr answer (IsRefusedBy c side source)
        → IsHonest g.TELLS → HasRootWorth (g.reads old) root (won_by (other side)) → Unless says_nothing answer (answer ≡ Err (NotHeld side))
    play_lost (Ok w) plays why honest worth = absurd (certificate_loses (g.reads old) root c side (certified honest) worth plays.plays.own)
    play_lost (Err r) plays why honest worth =
        subst (λ (x : PlayRefusal). Unless {T = Written} says_nothing (Err x) (◌≡◌ {A = Result Written PlayRefusal} (Err x) (Err (NotHeld side)))) (sym why.is)
        (lost_answers Written (g.reads old) root c side source why.cause (certified honest) worth why.fault)

    pub play_causes : (answer : Result Written PlayRefusal) → (IsHonest g.TELLS → AnswersEach {T = Certificate} (HasNoCertificate (g.reads old) root) (Ok c))
        → IfOk answer (λ w. WritesOut c side source w.text.items) → IfErr answer (IsRefusedBy c side source) → AnswersCauses g root side old answer
    play_causes answer causes plays why = record {
      looked = λ honest cause has. absurd (no_error c cause (causes honest cause has));
      lost = play_lost answer plays why;
    }

    pub play_accepted : (answer : Result Written PlayRefusal) → IfErr answer (IsRefusedBy c side source) → AcceptsRoot g root side source old answer
    play_accepted (Ok w) why honest settled held none = tt
    play_accepted (Err r) why honest settled held none = ap says_nothing why.is ∙ held_silent (g.reads old) root c side source why.cause (certified honest) settled held none why.fault

  -- where the look is refused
  module _ (fault : LookRefusal) (r : PlayRefusal) (is : r ≡ of_journal_look fault) where
    pub look_refused : (fault ≡ Journal DiskFault → Rose (g.faults old) (g.faults new)) → (IsHonest g.TELLS → ExplainsNoCertificate (g.reads old) root fault)
        → IsRefusedRoot g root side source old new r
    look_refused disk explained = inl (record { fault = fault; is = is; disk = disk; explained = explained })

    pub look_causes : (IsHonest g.TELLS → AnswersEach {T = Certificate} (HasNoCertificate (g.reads old) root) (Err fault))
        → (IsHonest g.TELLS → HasSettledRoot (g.reads old) root → BlamesNoFile {T = Certificate} (Err fault)) → AnswersCauses g {T = Written} root side old (Err r)
    look_causes causes accepted = record {
      looked = λ honest cause has. subst (λ (x : PlayRefusal). Unless {T = Written} says_nothing (Err x) (◌≡◌ {A = Result Written PlayRefusal} (Err x) (Err (of_journal_look cause)))) (sym is)
          (look_answers Written Certificate fault cause (causes honest cause has));
      lost = λ honest worth. unless_silent Written r (◌≡◌ {A = Result Written PlayRefusal} (Err r) (Err (NotHeld side))) (ap says_nothing is ∙ look_silent fault (accepted honest worth.0));
    }

    pub look_accepted : (IsHonest g.TELLS → HasSettledRoot (g.reads old) root → BlamesNoFile {T = Certificate} (Err fault)) → AcceptsRoot g {T = Written} root side source old (Err r)
    look_accepted accepted honest settled held none = ap says_nothing is ∙ look_silent fault (accepted honest settled)
