-- A file says one thing, or has one refusal, so a sound answer is exact.
use Rattle.std.specs.Prelude.{◌≡◌, ℕ, List, Result, IfOk, IfErr}
use Rattle.std.specs.Bool.{OnFalse}
use Rattle.std.proofs.Common.{sym, ◌∙◌, ap, subst}
use Rattle.shared_words.specs.Answers.{IsExact}
use Rattle.shared_words.proofs.Exactness.{exact_from_one}
use Rattle.disk_journal.specs.Contents.{Contents, HasContents, IsAttachedAs, IsReadAs}
use Rattle.disk_journal.specs.Format.{HasPayloads}
use Rattle.disk_journal.specs.FormatLaws.{payloads_once, pieces_once, places_once, read_or_refused, read_or_refused_any, refused_once, refused_once_any}
use Rattle.disk_journal.specs.Refusals.{Explains, ExplainsAny, says_nothing_of_file}
use Rattle.disk_journal.specs.declared.refusal.JournalRefusal.{JournalRefusal}

-- contents of these parts
made : ℕ → List (List ℕ) → List ℕ → Contents
made pieces payloads places = record { pieces = pieces; payloads = payloads; places = places }

contents_once : (file : List ℕ) (c d : Contents) → HasContents file c → HasContents file d → c.pieces ≡ d.pieces → c ≡ d
unfolding made
contents_once file c d x y same =
    ap (λ n. made n c.payloads c.places) same
    ∙ ap (λ (l : List (List ℕ)). made d.pieces l c.places) (payloads_once c.pieces d.pieces file c.payloads d.payloads x.payloads y.payloads)
    ∙ ap (λ (l : List ℕ). made d.pieces d.payloads l) (places_once c.pieces d.pieces file c.places d.places x.places y.places)

-- a sound answer of attaching is exact
pub attaches_exactly : (file : List ℕ) (asked : ℕ) (answer : Result Contents JournalRefusal)
    → IfOk answer (IsAttachedAs file asked) → IfErr answer (λ e. OnFalse (says_nothing_of_file e) (Explains file asked e))
    → IsExact says_nothing_of_file (IsAttachedAs file asked) (Explains file asked) answer
attaches_exactly file asked answer good fault =
    exact_from_one says_nothing_of_file (IsAttachedAs file asked) (Explains file asked) answer good fault
    (λ c d x y. contents_once file c d x.0 y.0 (x.1 ∙ sym y.1))
    (λ c e x why. read_or_refused file asked c.payloads e (subst (λ n. HasPayloads n file c.payloads) x.1 x.0.payloads) why)
    (refused_once file asked)

-- and one of reading
pub reads_exactly : (file : List ℕ) (answer : Result Contents JournalRefusal)
    → IfOk answer (IsReadAs file) → IfErr answer (λ e. OnFalse (says_nothing_of_file e) (ExplainsAny file e))
    → IsExact says_nothing_of_file (IsReadAs file) (ExplainsAny file) answer
reads_exactly file answer good fault =
    exact_from_one says_nothing_of_file (IsReadAs file) (ExplainsAny file) answer good fault
    (λ c d x y. contents_once file c d x.0 y.0 (pieces_once c.pieces d.pieces file c.payloads d.payloads (λ fresh. x.1 fresh ∙ sym (y.1 fresh)) x.0.payloads y.0.payloads))
    (λ c e x why. read_or_refused_any file c.pieces c.payloads e x.0.payloads why)
    (refused_once_any file)
