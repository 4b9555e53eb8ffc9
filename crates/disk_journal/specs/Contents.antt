-- What a file says as a journal.
use Rattle.std.specs.Prelude.{◌≡◌, ℕ, List, Vec, Result, Ok, Err, map}
use Rattle.disk_journal.specs.Format.{HasPayloads, HasPlaces, IsFresh}
use Rattle.disk_journal.specs.Log.{Log}
use Rattle.disk_journal.specs.declared.payload.Payload.{Payload}
use Rattle.disk_journal.specs.declared.refusal.JournalRefusal.{JournalRefusal}

-- the pieces of its tables, its payloads in order, and the places of their length fields
pub record Contents : Type 0 where
  pub pieces : ℕ
  pub payloads : List (List ℕ)
  pub places : List ℕ

-- The file says this. A fresh file says that there is no payload, for tables of any pieces.
pub record HasContents (file : List ℕ) (c : Contents) : Type 0 where
  pub payloads : HasPayloads c.pieces file c.payloads
  pub places : HasPlaces c.pieces file c.places

-- it says this where a journal for this number of pieces is asked for
abbrev pub IsAttachedAs : List ℕ → ℕ → Contents → Type 0
IsAttachedAs file asked c = HasContents file c × (c.pieces ≡ asked)

-- it says this where a journal for any table is asked for: a fresh file is then one for 2 pieces
abbrev pub IsReadAs : List ℕ → Contents → Type 0
IsReadAs file c = HasContents file c × (IsFresh file → c.pieces ≡ 2)

-- what was read, by its bytes and places
abbrev pub contents_of : ℕ → List Payload → Contents
contents_of pieces payloads = record {
  pieces = pieces;
  payloads = map (λ p. p.bytes.items) payloads;
  places = map (λ p. p.at) payloads;
}

-- the answer of reading, of which the contents are seen
abbrev pub read_contents : {A : Type 0} → Result (ℕ × Vec Payload A) JournalRefusal
    → Result Contents JournalRefusal
read_contents (Ok read) = Ok (contents_of read.0 read.1.items)
read_contents (Err refusal) = Err refusal

-- the answer of attaching, of which the contents are seen, or the refusal without the disk
abbrev pub attached_contents : {A D : Type 0} → Result (Log D × Vec Payload A) (D × JournalRefusal)
    → Result Contents JournalRefusal
attached_contents (Ok attached) = Ok (contents_of attached.0.pieces attached.1.items)
attached_contents (Err refused) = Err refused.1
