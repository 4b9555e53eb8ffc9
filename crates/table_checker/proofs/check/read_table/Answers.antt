use Rattle.std.proofs.Common.{◌≡◌, ◌-◌, ◌<◌, ◌^◌, ℕ, Option, Some, None, List, length, take, drop, sym, ◌∙◌, ap, subst}
use Rattle.std.specs.Prelude.{MatchOption, All}
use Rattle.std.specs.List.{flat_map}
use Rattle.std.proofs.lemmas.List.{take_rest, get_or_default}
use Rattle.table_index.specs.Order.{entry_count}
use Rattle.endgame_table.specs.Bytes.{number_bytes}
use Rattle.endgame_table.specs.Entries.{FitsAt}
use Rattle.table_checker.specs.Faults.{BeginsTable, HasTableForm, FailsFirstAt, due_length}
use Rattle.table_checker.proofs.ByteLemmas.{form-read}
use Rattle.endgame_table.proofs.Sound.{tables_fit_everywhere}
use Rattle.table_checker.proofs.check.read_table.Goals as goal

-- what the head and the length tell, with the numbers that were read
form : (k : ℕ) (bytes numbers : List ℕ) (pieces : Option ℕ) (due : ℕ)
    → MatchOption pieces ((k : ℕ) → BeginsTable k bytes → ⊥) (λ k. BeginsTable k bytes) → pieces ≡ Some k
    → length bytes ≡ due → due ≡ due_length k
    → take (length bytes - 8) (drop 8 bytes) ≡ flat_map number_bytes numbers → All (λ n. n < 2 ^ 32) numbers
    → HasTableForm k numbers bytes
form k bytes numbers pieces due begins is long due_is read words =
    form-read k bytes (take (length bytes - 8) (drop 8 bytes)) numbers
    (subst (λ o. MatchOption o ((k : ℕ) → BeginsTable k bytes → ⊥) (λ k. BeginsTable k bytes)) is begins)
    (long ∙ due_is) (take_rest bytes 8) read words

-- what was found, at the numbers as a list
found-none : (k : ℕ) (numbers items : List ℕ) (found : Option ℕ) → numbers ≡ items → found ≡ None
    → MatchOption found ((i : ℕ) → i < entry_count k → FitsAt k numbers i) (FailsFirstAt k numbers)
    → (i : ℕ) → i < entry_count k → FitsAt k items i
found-none k numbers items found same is told =
    subst (λ l. (i : ℕ) → i < entry_count k → FitsAt k l i) same
    (subst (λ o. MatchOption o ((i : ℕ) → i < entry_count k → FitsAt k numbers i) (FailsFirstAt k numbers)) is told)

found-some : (k : ℕ) (numbers items : List ℕ) (found : Option ℕ) (index : ℕ) → numbers ≡ items → found ≡ Some index
    → MatchOption found ((i : ℕ) → i < entry_count k → FitsAt k numbers i) (FailsFirstAt k numbers)
    → FailsFirstAt k items index
found-some k numbers items found index same is told =
    subst (λ l. FailsFirstAt k l index) same
    (subst (λ o. MatchOption o ((i : ℕ) → i < entry_count k → FitsAt k numbers i) (FailsFirstAt k numbers)) is told)

pub first_bad_entry-requires-clause-entries : goal.first_bad_entry-requires-clause-entries
first_bad_entry-requires-clause-entries c =
    let whole = form _ _ _ _ _ c.pieces_of_head.ensures c.in_ok-pieces.ensures.ok_part c.if-bytes-due.false c.due_length-due.ensures c.in_ok-numbers.ensures.bytes c.in_ok-numbers.ensures.words in
    ap length c.deref.ensures.value ∙ whole.entries

pub of_sound-requires : goal.of_sound-requires
of_sound-requires c =
    let whole = form _ _ _ _ _ c.pieces_of_head.ensures c.in_ok-pieces.ensures.ok_part c.if-bytes-due.false c.due_length-due.ensures c.in_ok-numbers.ensures.bytes c.in_ok-numbers.ensures.words in
    (tables_fit_everywhere _ _ whole.size whole.entries).1 (found-none _ _ _ _ c.deref.ensures.value c.in-None.is c.in_ok-first_bad_entry.ensures)

pub index-requires : goal.index-requires
index-requires c =
    let whole = form _ _ _ _ _ c.pieces_of_head.ensures c.in_ok-pieces.ensures.ok_part c.if-bytes-due.false c.due_length-due.ensures c.in_ok-numbers.ensures.bytes c.in_ok-numbers.ensures.words in
    let fails = found-some _ _ _ _ _ c.deref.ensures.value c.in-Some.is c.in_ok-first_bad_entry.ensures in
    subst (λ n. c.in-Some.index < n) (sym whole.entries ∙ sym (ap length c.deref.ensures.value) ∙ c.deref.ensures.len) fails.below

pub returns-in-Some-clause-refused : goal.returns-in-Some-clause-refused
returns-in-Some-clause-refused c =
    let whole = form _ _ _ _ _ c.pieces_of_head.ensures c.in_ok-pieces.ensures.ok_part c.if-bytes-due.false c.due_length-due.ensures c.in_ok-numbers.ensures.bytes c.in_ok-numbers.ensures.words in
    let fails = found-some _ _ _ _ _ c.deref.ensures.value c.in-Some.is c.in_ok-first_bad_entry.ensures in
    let kept = c.index.ensures ∙ get_or_default c.in_ok-numbers.numbers.items c.in-Some.index _ 0 (subst (λ n. c.in-Some.index < n) (sym whole.entries) fails.below) in
    (c.in_ok-pieces.pieces, (c.in_ok-numbers.numbers.items, (whole, (fails, kept))))
