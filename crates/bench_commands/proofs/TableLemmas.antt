-- In the bytes of a table `root ` stands nowhere, so that they say no value.
use Rattle.std.proofs.Common.{◌≡◌, ◌≢◌, ℕ, zero, suc, ◌<◌, ◌≤◌, ◌^◌, ◌⊎◌, inl, inr, List, [], ◌∷◌, ◌++◌, refl, sym, ◌∙◌, ap, subst, arith, length, get_or, take, append_assoc}
use Rattle.std.specs.Prelude.{codes, All}
use Rattle.std.specs.List.{flat_map}
use Rattle.std.specs.Int.{byte_at}
use Rattle.std.proofs.lemmas.List.Elements.{All-head, All-tail}
use Rattle.std.specs.Bool.{OnFalse}
use Rattle.bench_edges.specs.declared.words.Command.TheVariants.{TableCheck}
use Rattle.table_index.proofs.OrderLemmas.{block_sizes}
use Rattle.endgame_table.specs.Bytes.{number_bytes, bytes_of}
use Rattle.endgame_table.specs.Entries.{IsTable}
use Rattle.endgame_table.specs.Numbers.{no_position}
use Rattle.endgame_table.proofs.Filled.{count-most}
use Rattle.table_checker.specs.Faults.{IsTableFault, table_wants_memory}
use Rattle.table_checker.specs.declared.refusal.TableRefusal.{TableRefusal}
use Rattle.table_checker.specs.declared.refusal.TableRefusal.TheVariants as table
use Rattle.table_checker.proofs.ByteLemmas.{length-bytes_of}
use Rattle.table_checker.proofs.FaultLemmas.{faulty_bytes_are_no_table}
use Rattle.opening_report.specs.Conversions.{of_table}
use Rattle.opening_report.specs.Findings.{sound_text}
use Rattle.opening_report.specs.Lines.{IsLine}
use Rattle.opening_report.specs.declared.refusals.Refusal.TheVariants as refusal
use Rattle.bench_commands.specs.Steps.{IsAnswerFault, SaysTrue}
use Rattle.opening_report.proofs.ReportLemmas.{no_root-is_true, other_line_says_no_root, text_without_roots_says_none}

-- the first byte of four in a table: one of `D` and `B` of its head, or the first of a number
abbrev pub IsFirst : ℕ → Type 0
IsFirst a = (a ≡ 0) ⊎ ((a ≡ 255) ⊎ ((a ≡ 66) ⊎ (a ≡ 68)))

-- behind n more bytes, and every four from there on, stands such a byte
abbrev pub Firsts : ℕ → List ℕ → Type 0
Firsts n [] = Unit {0}
Firsts zero (a ∷ rest) = IsFirst a × Firsts 3 rest
Firsts (suc n) (a ∷ rest) = Firsts n rest

no_r : IsFirst 114 → ⊥
no_r (inl e) = omega (arith, e)
no_r (inr (inl e)) = omega (arith, e)
no_r (inr (inr (inl e))) = omega (arith, e)
no_r (inr (inr (inr e))) = omega (arith, e)

no_o : IsFirst 111 → ⊥
no_o (inl e) = omega (arith, e)
no_o (inr (inl e)) = omega (arith, e)
no_o (inr (inr (inl e))) = omega (arith, e)
no_o (inr (inr (inr e))) = omega (arith, e)

no_t : IsFirst 116 → ⊥
no_t (inl e) = omega (arith, e)
no_t (inr (inl e)) = omega (arith, e)
no_t (inr (inr (inl e))) = omega (arith, e)
no_t (inr (inr (inr e))) = omega (arith, e)

no_root : (n : ℕ) → n ≤ 3 → (before after : List ℕ) → Firsts n (before ++ (codes "root " ++ after)) → ⊥
no_root zero few [] after h = no_r h.0
no_root (suc zero) few [] after h = no_o h.0
no_root (suc (suc zero)) few [] after h = no_o h.0
no_root (suc (suc (suc zero))) few [] after h = no_t h.0
no_root (suc (suc (suc (suc n)))) few [] after h = omega (arith, few)
no_root zero few (x ∷ before) after h = no_root 3 (omega arith) before after h.1
no_root (suc n) few (x ∷ before) after h = no_root n (omega (arith, few)) before after h

-- a number of a table that is filled: that of no position, or a small one
abbrev pub IsSmall : ℕ → Type 0
IsSmall n = (n ≡ no_position) ⊎ (n < 2 ^ 24)

first_byte : (n : ℕ) → IsSmall n → IsFirst (byte_at 3 n)
first_byte n (inl e) = inr (inl (ap (λ m. byte_at 3 m) e))
first_byte n (inr small) = inl (omega (arith, small))

number_first : (n : ℕ) (rest : List ℕ) → IsSmall n → Firsts 0 rest → Firsts 0 (number_bytes n ++ rest)
unfolding number_bytes
number_first n rest small more =
    let e : number_bytes n ≡ byte_at 3 n ∷ byte_at 2 n ∷ byte_at 1 n ∷ byte_at 0 n ∷ [] = refl in
    subst (λ bytes. Firsts 0 (bytes ++ rest)) (sym e) (first_byte n small, more)

numbers_first : (numbers : List ℕ) → All IsSmall numbers → Firsts 0 (flat_map number_bytes numbers)
numbers_first [] small = tt
numbers_first (n ∷ numbers) small = number_first n (flat_map number_bytes numbers) (All-head IsSmall n numbers small) (numbers_first numbers (All-tail IsSmall n numbers small))

bytes_first : (k : ℕ) (numbers : List ℕ) → All IsSmall numbers → Firsts 0 (bytes_of k numbers)
bytes_first k numbers small = (inr (inr (inr refl)), (inr (inr (inl refl)), numbers_first numbers small))

-- the bytes of a table say no value, and no front of them does
pub table_says : (k : ℕ) (numbers text : List ℕ) → All IsSmall numbers → text ≡ bytes_of k numbers → SaysTrue text
table_says k numbers text small is front back whole = no_root-is_true front (text_without_roots_says_none front without)
  where
    without : (before after : List ℕ) → front ≢ before ++ (codes "root " ++ after)
    without before after e =
        let all : bytes_of k numbers ≡ before ++ (codes "root " ++ (after ++ back)) =
        sym is ∙ whole ∙ ap (λ t. t ++ back) e ∙ append_assoc before (codes "root " ++ after) back ∙ ap (λ t. before ++ t) (append_assoc (codes "root ") after back) in
        no_root 0 (omega arith) before (after ++ back) (subst (Firsts 0) all (bytes_first k numbers small))

-- ---- bytes that are no table

-- a table is shorter than the limit
pub table_is_short : (k : ℕ) (numbers bytes : List ℕ) → IsTable k numbers → bytes ≡ bytes_of k numbers → length bytes ≤ 4194304
table_is_short k numbers bytes table is =
    let long = length-bytes_of k numbers in
    let same = ap length is in
    let entries = table.entries in
    let most = count-most k table.size in
    let all = block_sizes.count_of_three in
    omega arith

-- why bytes were refused
pub table_refused : (bytes : List ℕ) (r : TableRefusal) → OnFalse (table_wants_memory r) (IsTableFault bytes r) → IsAnswerFault TableCheck bytes (of_table r)
table_refused bytes table.BadHead h = inr (table.BadHead, (refl, h))
table_refused bytes (table.WrongLength found due) h = inr (table.WrongLength found due, (refl, h))
table_refused bytes (table.BadEntry index kept) h = inr (table.BadEntry index kept, (refl, h))
table_refused bytes (table.Memory error) h = inl refl

-- the bytes of a table are refused for want of memory alone
pub table_accepted : (bytes : List ℕ) (r : TableRefusal) → OnFalse (table_wants_memory r) (IsTableFault bytes r)
    → (k : ℕ) × ((numbers : List ℕ) × (IsTable k numbers × (bytes ≡ bytes_of k numbers))) → of_table r ≡ refusal.Memory
table_accepted bytes table.BadHead h good = absurd (faulty_bytes_are_no_table bytes table.BadHead h good.0 good.1.0 good.1.1.0 good.1.1.1)
table_accepted bytes (table.WrongLength found due) h good = absurd (faulty_bytes_are_no_table bytes (table.WrongLength found due) h good.0 good.1.0 good.1.1.0 good.1.1.1)
table_accepted bytes (table.BadEntry index kept) h good = absurd (faulty_bytes_are_no_table bytes (table.BadEntry index kept) h good.0 good.1.0 good.1.1.0 good.1.1.1)
table_accepted bytes (table.Memory error) h good = refl

-- ---- the line on a sound table

not_root : (k n : ℕ) → take 5 (sound_text k n) ≢ codes "root "
not_root k n same = let first : ◌≡◌ {A = ℕ} 115 114 = ap (λ t. get_or t 0 0) same in omega (arith, first)

pub sound_says : (k n : ℕ) (text : List ℕ) → IsLine (sound_text k n) → text ≡ sound_text k n → SaysTrue text
sound_says k n text one is front back whole = no_root-is_true front (other_line_says_no_root (sound_text k n) front back one (not_root k n) (sym is ∙ whole))
