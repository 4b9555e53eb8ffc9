-- The fields in their order spell the texts of records.
use Rattle.std.proofs.Common.{◌≡◌, ℕ, zero, suc, ◌-◌, ◌<◌, ◌≤◌, ◌^◌, Bool, true, false, List, [], ◌∷◌, ◌++◌, length, map, refl, sym, ◌∙◌, ap, subst, append_assoc, append-nil, arith, Option, Some, None, ◌⊎◌, inl, inr}
use Rattle.std.specs.Prelude.{All, Contains, IfSome, IsTrue, ◌&&◌, ◌==◌, nat_le}
use Rattle.std.specs.List.{flat_map}
use Rattle.std.proofs.lemmas.Bool.{and_parts, or_cases, leb-true, le-leb, eqb-true, or_right}
use Rattle.std.proofs.lemmas.List.Elements.{All-nil, All-head, All-tail, All-cons, All-push, All-contains, Contains-append_right}
use Rattle.draughts_board.specs.Geometry.{IsSquare}
use Rattle.draughts_board.specs.Board.{Board, IsLawful}
use Rattle.draughts_board.specs.declared.pieces.Side.{Side}
use Rattle.draughts_board.specs.declared.pieces.Side.TheVariants.{Black, White}
use Rattle.draughts_board.proofs.Members.{Contains-head, Contains-nil}
use Rattle.strategy_certificate.specs.declared.entries.WinEntry.{WinEntry}
use Rattle.strategy_certificate.specs.declared.claims.Claim.{Claim}
use Rattle.strategy_certificate.specs.declared.claims.Claim.TheVariants as claim
use Rattle.strategy_certificate.specs.declared.certificates.Part.{Part}
use Rattle.strategy_certificate.specs.declared.certificates.Part.TheVariants.{Win, Hold}
use Rattle.strategy_certificate.specs.declared.certificates.Certificate.{Certificate}
use Rattle.strategy_certificate.specs.Parts.{WinList, HoldList, IsPath, IsWinRow, IsHoldRow, HasDistinctPositions, positions_of}
use Rattle.strategy_certificate.specs.Claims.{HasShortRanks}
use Rattle.strategy_certificate.specs.Certificates.{claim_of}
use Rattle.bench_records.specs.Positions.{short_text, long_text}
use Rattle.bench_records.specs.Texts.{choice_bytes, win_sheet, hold_sheet, part_sheet, claim_byte, certificate_sheet, record_sheet, full_kind, short_kind, IsShown, ShowsEnough, HasShortCount, IsSoundRecord, IsTextFor}
use Rattle.bench_records.specs.Formats.{Field, byte, short, long, position, FieldValue, IsAllowed, field_text, Format, done, one, ◌>>=◌, SpellsValue}
use Rattle.bench_records.specs.Orders.{is_between, many, square_order, path_order, is_move_count, choice_order, win_order, hold_order, win_part_order, hold_part_order, part_order, certificate_order, begin_order, solve_order, expand_order, kind_order, record_order}
use Rattle.bench_records.specs.declared.records.BenchRecord.{BenchRecord}
use Rattle.bench_records.specs.declared.records.BenchRecord.TheVariants.{Begin, Solve, Expand}
use Rattle.bench_records.specs.Names.{Sheet, mark, name, marks, full_text, short_sheet, named_by, IsNamed, noting, numbered}
use Rattle.bench_records.proofs.Formats.{spells_then, spells_cut}
use Rattle.bench_records.proofs.Sheets.{SpellsSheet, full_is, full_spells, noting_is, noting_spells}
use Rattle.bench_records.proofs.OnSheets.{sheet_then, sheet_cut, one_sheet, one_on_sheet}
use Rattle.bench_records.proofs.Rows.{none_distinct, distinct_push, distinct_here}

-- ---- one field

pub one_text : (f : Field) (bytes : List ℕ) (v : FieldValue f) → SpellsValue (one f) bytes v → IsAllowed f v × (bytes ≡ field_text f v)
one_text f bytes v (u, (rest, (begins, (none, same)))) =
    (subst (IsAllowed f) same begins.allowed, begins.spelled ∙ ap (λ t. field_text f u ++ t) none ∙ append-nil (field_text f u) ∙ ap (field_text f) same)

pub one_spells : (f : Field) (v : FieldValue f) → IsAllowed f v → SpellsValue (one f) (field_text f v) v
one_spells f v allowed = (v, ([], (record { allowed = allowed; spelled = sym (append-nil (field_text f v)) }, (refl, refl))))

-- ---- tests of a byte

pub between : (least most n : ℕ) → IsTrue (is_between least most n) → (least ≤ n) × (n ≤ most)
between least most n h = let both = and_parts (nat_le least n) (nat_le n most) h in (leb-true least n both.0, leb-true n most both.1)

pub is-between : (least most n : ℕ) → least ≤ n → n ≤ most → IsTrue (is_between least most n)
is-between least most n a b = by (nat_le least n) (nat_le n most) (le-leb least n a) (le-leb n most b)
  where
    by : (p q : Bool) → p ≡ true → q ≡ true → (p && q) ≡ true
    by true true x y = refl
    by true false x y = y
    by false q x y = x

-- ---- many, one behind the other

module _ {X : Type 0} (next : List X → Format X) (text : X → Sheet) (Good : List X → Type 0) where
  -- what was read of n items behind others
  pub record Made (before : List X) (n : ℕ) (all : List X) (bytes : Sheet) : Type 0 where
    pub more : List X
    pub is : all ≡ before ++ more
    pub count : length more ≡ n
    pub good : Good all
    pub spelled : bytes ≡ flat_map text more

  many_text : ((before : List X) (x : X) (bytes : Sheet) → Good before → SpellsSheet (next before) bytes x → Good (before ++ x ∷ []) × (bytes ≡ text x))
      → (n : ℕ) (before all : List X) (bytes : Sheet) → Good before → SpellsSheet (many n next before) bytes all → Made before n all bytes
  many_text step zero before all bytes good (none, same) = record { more = []; is = sym same ∙ sym (append-nil before); count = refl; good = subst Good same good; spelled = none }
  many_text step (suc n) before all bytes good spells =
      let cut = sheet_cut (next before) (λ x. many n next (before ++ x ∷ [])) bytes all spells in
      let here = step before cut.value cut.front good cut.first in
      let rest = many_text step n (before ++ cut.value ∷ []) all cut.rest here.0 cut.second in
      record {
        more = cut.value ∷ rest.more;
        is = rest.is ∙ append_assoc before (cut.value ∷ []) rest.more;
        count = ap suc rest.count;
        good = rest.good;
        spelled = cut.is ∙ (λ i. here.1 i ++ rest.spelled i);
      }

  many_spells : ((before : List X) (x : X) (more : List X) → Good (before ++ x ∷ more) → SpellsSheet (next before) (text x) x)
      → (before more : List X) → Good (before ++ more) → SpellsSheet (many (length more) next before) (flat_map text more) (before ++ more)
  many_spells step before [] good = (refl, sym (append-nil before))
  many_spells step before (x ∷ more) good =
      let rows : (before ++ x ∷ []) ++ more ≡ before ++ x ∷ more = append_assoc before (x ∷ []) more in
      sheet_then (next before) (λ y. many (length more) next (before ++ y ∷ [])) (text x) (flat_map text more) x (before ++ x ∷ more) (step before x more good)
      (subst (λ all. SpellsSheet (many (length more) next (before ++ x ∷ [])) (flat_map text more) all) rows
      (many_spells step (before ++ x ∷ []) more (subst Good (sym rows) good)))

here_all : {X : Type 0} (P : X → Type 0) (xs : List X) (x : X) (more : List X) → All P (xs ++ x ∷ more) → P x
here_all P xs x more all = All-contains P (xs ++ x ∷ more) x all (Contains-append_right xs (x ∷ more) x (Contains-head x more))

-- ---- moves

bytes_of_squares : (path : List ℕ) → flat_map (λ s. mark s ∷ []) path ≡ marks path
bytes_of_squares [] = refl
bytes_of_squares (s ∷ path) = ap (λ p. mark s ∷ p) (bytes_of_squares path)

square_text : (before : List ℕ) (s : ℕ) (bytes : Sheet) → All IsSquare before → SpellsSheet (square_order before) bytes s → All IsSquare (before ++ s ∷ []) × (bytes ≡ mark s ∷ [])
square_text before s bytes good spells =
    let known = one_sheet (byte (is_between 1 32)) bytes s spells in
    (All-push IsSquare before s good (between 1 32 s known.0), known.1)

square_spells : (before : List ℕ) (s : ℕ) (more : List ℕ) → All IsSquare (before ++ s ∷ more) → SpellsSheet (square_order before) (mark s ∷ []) s
square_spells before s more good =
    let square = here_all IsSquare before s more good in
    one_on_sheet (byte (is_between 1 32)) s (is-between 1 32 s square.0 square.1)

pub count_some : (n : ℕ) → IsTrue (is_move_count (suc n)) → (2 ≤ suc n) × (suc n ≤ 13)
count_some n h = by (or_cases (suc n == 0) (is_between 2 13 (suc n)) h)
  where
    by : ((suc n == 0) ≡ true) ⊎ (is_between 2 13 (suc n) ≡ true) → (2 ≤ suc n) × (suc n ≤ 13)
    by (inl none) = absurd (let e : suc n ≡ 0 = eqb-true (suc n) 0 none in omega arith)
    by (inr some) = between 2 13 (suc n) some

path_text : (n : ℕ) (chosen : Option (List ℕ)) (bytes : Sheet) → IsTrue (is_move_count n) → SpellsSheet (path_order n) bytes chosen → IfSome chosen IsPath × (mark n ∷ bytes ≡ marks (choice_bytes chosen))
path_text zero chosen bytes h (none, same) = subst (λ c. IfSome c IsPath × (mark 0 ∷ bytes ≡ marks (choice_bytes c))) same (tt, ap (λ t. mark 0 ∷ t) none)
path_text (suc n) chosen bytes h spells =
    let cut = sheet_cut (many (suc n) square_order []) (λ path. done (Some path)) bytes chosen spells in
    let made = many_text square_order (λ s. mark s ∷ []) (All IsSquare) square_text (suc n) [] cut.value cut.front (All-nil IsSquare) cut.first in
    let path : cut.value ≡ made.more = made.is in
    let long : length cut.value ≡ suc n = ap length path ∙ made.count in
    let least : 2 ≤ length cut.value = let k = (count_some n h).0 in omega arith in
    let most : length cut.value ≤ 13 = let k = (count_some n h).1 in omega arith in
    let text : bytes ≡ marks cut.value = cut.is ∙ ap (λ t. cut.front ++ t) cut.second.0 ∙ append-nil cut.front ∙ made.spelled ∙ bytes_of_squares made.more ∙ ap marks (sym path) in
    subst (λ c. IfSome c IsPath × (mark (suc n) ∷ bytes ≡ marks (choice_bytes c))) cut.second.1 ((least, most, made.good), (λ i. mark (sym long i) ∷ text i))

pub choice_is : (bytes : Sheet) (chosen : Option (List ℕ)) → SpellsSheet choice_order bytes chosen → IfSome chosen IsPath × (bytes ≡ marks (choice_bytes chosen))
choice_is bytes chosen spells =
    let cut = sheet_cut (one (byte is_move_count)) path_order bytes chosen spells in
    let count = one_sheet (byte is_move_count) cut.front cut.value cut.first in
    let path = path_text cut.value chosen cut.rest count.0 cut.second in
    (path.0, cut.is ∙ ap (λ t. t ++ cut.rest) count.1 ∙ path.1)

pub some_count : (n : ℕ) → 2 ≤ n → n ≤ 13 → IsTrue (is_move_count n)
some_count n a b = or_right (n == 0) (is_between 2 13 n) (is-between 2 13 n a b)

path_spells : (path : List ℕ) → IsPath path → SpellsSheet (path_order (length path)) (marks path) (Some path)
path_spells [] whole = absurd (let k : 2 ≤ 0 = whole.0 in omega arith)
path_spells (s ∷ path) whole =
    let squares = many_spells square_order (λ s. mark s ∷ []) (All IsSquare) square_spells [] (s ∷ path) whole.2 in
    subst (λ t. SpellsSheet (path_order (suc (length path))) t (Some (s ∷ path))) (append-nil (flat_map (λ s. mark s ∷ []) (s ∷ path)) ∙ bytes_of_squares (s ∷ path))
    (sheet_then (many (suc (length path)) square_order []) (λ p. done (Some p)) (flat_map (λ s. mark s ∷ []) (s ∷ path)) [] (s ∷ path) (Some (s ∷ path)) squares (refl, refl))

pub choice_spells : (chosen : Option (List ℕ)) → IfSome chosen IsPath → SpellsSheet choice_order (marks (choice_bytes chosen)) chosen
choice_spells None whole = sheet_then (one (byte is_move_count)) path_order (mark 0 ∷ []) [] 0 None (one_on_sheet (byte is_move_count) 0 refl) (refl, refl)
choice_spells (Some path) whole =
    sheet_then (one (byte is_move_count)) path_order (mark (length path) ∷ []) (marks path) (length path) (Some path)
    (one_on_sheet (byte is_move_count) (length path) (some_count (length path) whole.0 whole.1)) (path_spells path whole)

-- ---- entries

-- what is due behind a position, behind a rank, and behind a move
abbrev pub win_row : Board → ℕ → Option (List ℕ) → Format (Board × WinEntry)
win_row p rank chosen = done (p, record { rank = rank; chosen = chosen })

abbrev pub win_chosen : Board → ℕ → Format (Board × WinEntry)
win_chosen p rank = choice_order >>= win_row p rank

abbrev pub win_behind : Board → Format (Board × WinEntry)
win_behind p = one (long (2 ^ 40)) >>= win_chosen p

abbrev pub hold_row : Board → Option (List ℕ) → Format (Board × Option (List ℕ))
hold_row p chosen = done (p, chosen)

abbrev pub hold_behind : Board → Format (Board × Option (List ℕ))
hold_behind p = choice_order >>= hold_row p

-- the positions stand once, and each entry is sound, with a rank of at most 2^40
pub record GoodWins (rows : List (Board × WinEntry)) : Type 0 where
  pub distinct : HasDistinctPositions rows
  pub each : All IsWinRow rows
  pub low : All (λ row. row.1.rank ≤ 2 ^ 40) rows

pub record GoodHolds (rows : List (Board × Option (List ℕ))) : Type 0 where
  pub distinct : HasDistinctPositions rows
  pub each : All IsHoldRow rows

win_is : (before : List (Board × WinEntry)) (row : Board × WinEntry) (bytes : Sheet) → GoodWins before → SpellsSheet (win_order before) bytes row → GoodWins (before ++ row ∷ []) × (bytes ≡ win_sheet row)
win_is before row bytes good spells =
    let at_p = sheet_cut (one (position (positions_of before))) win_behind bytes row spells in
    let p = one_sheet (position (positions_of before)) at_p.front at_p.value at_p.first in
    let at_rank = sheet_cut (one (long (2 ^ 40))) (win_chosen at_p.value) at_p.rest row at_p.second in
    let rank = one_sheet (long (2 ^ 40)) at_rank.front at_rank.value at_rank.first in
    let at_choice = sheet_cut choice_order (win_row at_p.value at_rank.value) at_rank.rest row at_rank.second in
    let choice = choice_is at_choice.front at_choice.value at_choice.first in
    let made : Board × WinEntry = (at_p.value, record { rank = at_rank.value; chosen = at_choice.value }) in
    let text : bytes ≡ win_sheet made =
    at_p.is ∙ (λ i. p.1 i ++ (at_rank.is ∙ (λ j. rank.1 j ++ (at_choice.is ∙ ap (λ t. at_choice.front ++ t) at_choice.second.0 ∙ append-nil at_choice.front ∙ choice.1) j)) i) in
    subst (λ r. GoodWins (before ++ r ∷ []) × (bytes ≡ win_sheet r)) at_choice.second.1 (
      record {
        distinct = distinct_push before made good.distinct p.0.1;
        each = All-push IsWinRow before made good.each (p.0.0, (let low = rank.0.1 in omega arith, choice.0));
        low = All-push (λ r. r.1.rank ≤ 2 ^ 40) before made good.low rank.0.1;
      },
      text,
    )

win_spells : (before : List (Board × WinEntry)) (row : Board × WinEntry) (more : List (Board × WinEntry)) → GoodWins (before ++ row ∷ more) → SpellsSheet (win_order before) (win_sheet row) row
win_spells before row more good =
    let sound = here_all IsWinRow before row more good.each in
    let low = here_all (λ r. r.1.rank ≤ 2 ^ 40) before row more good.low in
    let wide : row.1.rank < 2 ^ 64 = omega arith in
    sheet_then (one (position (positions_of before))) win_behind (name row.0 ∷ []) (marks (long_text row.1.rank) ++ marks (choice_bytes row.1.chosen)) row.0 row
    (one_on_sheet (position (positions_of before)) row.0 (sound.0, distinct_here before row more good.distinct))
    (sheet_then (one (long (2 ^ 40))) (win_chosen row.0) (marks (long_text row.1.rank)) (marks (choice_bytes row.1.chosen)) row.1.rank row (one_on_sheet (long (2 ^ 40)) row.1.rank (wide, low))
    (subst (λ t. SpellsSheet (choice_order >>= (win_row row.0 row.1.rank)) t row) (append-nil (marks (choice_bytes row.1.chosen)))
    (sheet_then choice_order (win_row row.0 row.1.rank) (marks (choice_bytes row.1.chosen)) [] row.1.chosen row (choice_spells row.1.chosen sound.1.1) (refl, refl))))

hold_is : (before : List (Board × Option (List ℕ))) (row : Board × Option (List ℕ)) (bytes : Sheet) → GoodHolds before → SpellsSheet (hold_order before) bytes row → GoodHolds (before ++ row ∷ []) × (bytes ≡ hold_sheet row)
hold_is before row bytes good spells =
    let at_p = sheet_cut (one (position (positions_of before))) hold_behind bytes row spells in
    let p = one_sheet (position (positions_of before)) at_p.front at_p.value at_p.first in
    let at_choice = sheet_cut choice_order (hold_row at_p.value) at_p.rest row at_p.second in
    let choice = choice_is at_choice.front at_choice.value at_choice.first in
    let made : Board × Option (List ℕ) = (at_p.value, at_choice.value) in
    let text : bytes ≡ hold_sheet made =
    at_p.is ∙ (λ i. p.1 i ++ (at_choice.is ∙ ap (λ t. at_choice.front ++ t) at_choice.second.0 ∙ append-nil at_choice.front ∙ choice.1) i) in
    subst (λ r. GoodHolds (before ++ r ∷ []) × (bytes ≡ hold_sheet r)) at_choice.second.1 (
      record {
        distinct = distinct_push before made good.distinct p.0.1;
        each = All-push IsHoldRow before made good.each (p.0.0, choice.0);
      },
      text,
    )

hold_spells : (before : List (Board × Option (List ℕ))) (row : Board × Option (List ℕ)) (more : List (Board × Option (List ℕ))) → GoodHolds (before ++ row ∷ more) → SpellsSheet (hold_order before) (hold_sheet row) row
hold_spells before row more good =
    let sound = here_all IsHoldRow before row more good.each in
    sheet_then (one (position (positions_of before))) hold_behind (name row.0 ∷ []) (marks (choice_bytes row.1)) row.0 row
    (one_on_sheet (position (positions_of before)) row.0 (sound.0, distinct_here before row more good.distinct))
    (subst (λ t. SpellsSheet (choice_order >>= (hold_row row.0)) t row) (append-nil (marks (choice_bytes row.1)))
    (sheet_then choice_order (hold_row row.0) (marks (choice_bytes row.1)) [] row.1 row (choice_spells row.1 sound.1) (refl, refl)))

-- ---- parts

-- what is due behind the number of entries, and behind the entries
abbrev pub win_part : Side → List (Board × WinEntry) → Format Part
win_part side rows = done (Win (record { side = side; entries = rows }))

abbrev pub wins_behind : Side → ℕ → Format Part
wins_behind side count = many count win_order [] >>= win_part side

abbrev pub hold_part : Side → List (Board × Option (List ℕ)) → Format Part
hold_part side rows = done (Hold (record { side = side; entries = rows }))

abbrev pub holds_behind : Side → ℕ → Format Part
holds_behind side count = many count hold_order [] >>= hold_part side

-- a part that bytes behind this claim spell
pub record IsPartText (code : ℕ) (bytes : Sheet) (part : Part) : Type 0 where
  pub claimed : code ≡ claim_byte (claim_of part)
  pub counted : HasShortCount part
  pub ranks : HasShortRanks part
  pub spelled : bytes ≡ part_sheet part

win_part_is : (side : Side) (bytes : Sheet) (part : Part) → SpellsSheet (win_part_order side) bytes part → IsPartText (claim_byte (claim.Win side)) bytes part
win_part_is side bytes part spells =
    let at_count = sheet_cut (one short) (wins_behind side) bytes part spells in
    let count = one_sheet short at_count.front at_count.value at_count.first in
    let at_rows = sheet_cut (many at_count.value win_order []) (win_part side) at_count.rest part at_count.second in
    let made = many_text win_order win_sheet GoodWins win_is at_count.value [] at_rows.value at_rows.front
    (record { distinct = none_distinct WinEntry; each = All-nil IsWinRow; low = All-nil (λ r. r.1.rank ≤ 2 ^ 40) }) at_rows.first in
    let rows : at_rows.value ≡ made.more = made.is in
    let size : length at_rows.value ≡ at_count.value = ap length rows ∙ made.count in
    subst (IsPartText (claim_byte (claim.Win side)) bytes) at_rows.second.1 (record {
      claimed = refl;
      counted = (record { distinct = made.good.distinct; rows = made.good.each }, subst (λ n. n < 2 ^ 32) (sym size) count.0);
      ranks = made.good.low;
      spelled = at_count.is ∙ (λ i. (count.1 ∙ ap (λ n. marks (short_text n)) (sym size)) i
          ++ (at_rows.is ∙ ap (λ t. at_rows.front ++ t) at_rows.second.0 ∙ append-nil at_rows.front ∙ made.spelled ∙ ap (flat_map win_sheet) (sym rows)) i);
    })

hold_part_is : (side : Side) (bytes : Sheet) (part : Part) → SpellsSheet (hold_part_order side) bytes part → IsPartText (claim_byte (claim.Hold side)) bytes part
hold_part_is side bytes part spells =
    let at_count = sheet_cut (one short) (holds_behind side) bytes part spells in
    let count = one_sheet short at_count.front at_count.value at_count.first in
    let at_rows = sheet_cut (many at_count.value hold_order []) (hold_part side) at_count.rest part at_count.second in
    let made = many_text hold_order hold_sheet GoodHolds hold_is at_count.value [] at_rows.value at_rows.front
    (record { distinct = none_distinct (Option (List ℕ)); each = All-nil IsHoldRow }) at_rows.first in
    let rows : at_rows.value ≡ made.more = made.is in
    let size : length at_rows.value ≡ at_count.value = ap length rows ∙ made.count in
    subst (IsPartText (claim_byte (claim.Hold side)) bytes) at_rows.second.1 (record {
      claimed = refl;
      counted = (record { distinct = made.good.distinct; rows = made.good.each }, subst (λ n. n < 2 ^ 32) (sym size) count.0);
      ranks = tt;
      spelled = at_count.is ∙ (λ i. (count.1 ∙ ap (λ n. marks (short_text n)) (sym size)) i
          ++ (at_rows.is ∙ ap (λ t. at_rows.front ++ t) at_rows.second.0 ∙ append-nil at_rows.front ∙ made.spelled ∙ ap (flat_map hold_sheet) (sym rows)) i);
    })

part_is : (code : ℕ) (bytes : Sheet) (part : Part) → 1 ≤ code → code ≤ 4 → SpellsSheet (part_order code) bytes part → IsPartText code bytes part
part_is zero bytes part least most spells = absurd (omega arith)
part_is (suc zero) bytes part least most spells = win_part_is Black bytes part spells
part_is (suc (suc zero)) bytes part least most spells = win_part_is White bytes part spells
part_is (suc (suc (suc zero))) bytes part least most spells = hold_part_is Black bytes part spells
part_is (suc (suc (suc (suc zero)))) bytes part least most spells = hold_part_is White bytes part spells
part_is (suc (suc (suc (suc (suc n))))) bytes part least most spells = absurd (omega arith)

win_part_spells : (side : Side) (list : WinList) → list.side ≡ side → HasShortCount (Win list) → HasShortRanks (Win list) → SpellsSheet (win_part_order side) (part_sheet (Win list)) (Win list)
win_part_spells side list same counted low =
    let rows = many_spells win_order win_sheet GoodWins win_spells [] list.entries (record { distinct = counted.0.distinct; each = counted.0.rows; low = low }) in
    sheet_then (one short) (wins_behind side) (marks (short_text (length list.entries))) (flat_map win_sheet list.entries) (length list.entries) (Win list) (one_on_sheet short (length list.entries) counted.1)
    (subst (λ t. SpellsSheet (many (length list.entries) win_order [] >>= (win_part side)) t (Win list)) (append-nil (flat_map win_sheet list.entries))
    (sheet_then (many (length list.entries) win_order []) (win_part side) (flat_map win_sheet list.entries) [] list.entries (Win list) rows
    (refl, λ i. Win (record { side = sym same i; entries = list.entries }))))

hold_part_spells : (side : Side) (list : HoldList) → list.side ≡ side → HasShortCount (Hold list) → SpellsSheet (hold_part_order side) (part_sheet (Hold list)) (Hold list)
hold_part_spells side list same counted =
    let rows = many_spells hold_order hold_sheet GoodHolds hold_spells [] list.entries (record { distinct = counted.0.distinct; each = counted.0.rows }) in
    sheet_then (one short) (holds_behind side) (marks (short_text (length list.entries))) (flat_map hold_sheet list.entries) (length list.entries) (Hold list) (one_on_sheet short (length list.entries) counted.1)
    (subst (λ t. SpellsSheet (many (length list.entries) hold_order [] >>= (hold_part side)) t (Hold list)) (append-nil (flat_map hold_sheet list.entries))
    (sheet_then (many (length list.entries) hold_order []) (hold_part side) (flat_map hold_sheet list.entries) [] list.entries (Hold list) rows
    (refl, λ i. Hold (record { side = sym same i; entries = list.entries }))))

-- a part behind its claim
record SpelledPart (part : Part) : Type 0 where
  least : 1 ≤ claim_byte (claim_of part)
  most : claim_byte (claim_of part) ≤ 4
  spells : SpellsSheet (part_order (claim_byte (claim_of part))) (part_sheet part) part

part_spells : (part : Part) → HasShortCount part → HasShortRanks part → SpelledPart part
part_spells (Win list) counted low = by list.side list refl counted low
  where
    by : (side : Side) (list : WinList) → list.side ≡ side → HasShortCount (Win list) → HasShortRanks (Win list) → SpelledPart (Win list)
    by Black list same counted low =
        let code : claim_byte (claim.Win list.side) ≡ 1 = ap (λ s. claim_byte (claim.Win s)) same in
        record { least = omega (arith, code); most = omega (arith, code); spells = subst (λ n. SpellsSheet (part_order n) (part_sheet (Win list)) (Win list)) (sym code) (win_part_spells Black list same counted low) }
    by White list same counted low =
        let code : claim_byte (claim.Win list.side) ≡ 2 = ap (λ s. claim_byte (claim.Win s)) same in
        record { least = omega (arith, code); most = omega (arith, code); spells = subst (λ n. SpellsSheet (part_order n) (part_sheet (Win list)) (Win list)) (sym code) (win_part_spells White list same counted low) }
part_spells (Hold list) counted low = by list.side list refl counted
  where
    by : (side : Side) (list : HoldList) → list.side ≡ side → HasShortCount (Hold list) → SpelledPart (Hold list)
    by Black list same counted =
        let code : claim_byte (claim.Hold list.side) ≡ 3 = ap (λ s. claim_byte (claim.Hold s)) same in
        record { least = omega (arith, code); most = omega (arith, code); spells = subst (λ n. SpellsSheet (part_order n) (part_sheet (Hold list)) (Hold list)) (sym code) (hold_part_spells Black list same counted) }
    by White list same counted =
        let code : claim_byte (claim.Hold list.side) ≡ 4 = ap (λ s. claim_byte (claim.Hold s)) same in
        record { least = omega (arith, code); most = omega (arith, code); spells = subst (λ n. SpellsSheet (part_order n) (part_sheet (Hold list)) (Hold list)) (sym code) (hold_part_spells White list same counted) }

-- ---- certificates

-- what is due behind the part, and behind the claim
abbrev pub by_part : ℕ → Board → Part → Format Certificate
by_part pieces p part = done (record { position = p; claim = claim_of part; pieces = pieces; parts = part ∷ [] })

abbrev pub behind_claim : ℕ → Board → ℕ → Format Certificate
behind_claim pieces p code = part_order code >>= by_part pieces p

-- a certificate that has a text
pub record IsGoodShown (pieces : ℕ) (p : Board) (c : Certificate) : Type 0 where
  pub shown : IsShown pieces p c
  pub counted : All HasShortCount c.parts

certificate_is : (pieces : ℕ) (p : Board) (before : List Certificate) (c : Certificate) (bytes : Sheet) → All (IsGoodShown pieces p) before → SpellsSheet (certificate_order pieces p before) bytes c
    → All (IsGoodShown pieces p) (before ++ c ∷ []) × (bytes ≡ certificate_sheet c)
certificate_is pieces p before c bytes good spells =
    let at_claim = sheet_cut (one (byte (is_between 1 4))) (behind_claim pieces p) bytes c spells in
    let code = one_sheet (byte (is_between 1 4)) at_claim.front at_claim.value at_claim.first in
    let range = between 1 4 at_claim.value code.0 in
    let at_part = sheet_cut (part_order at_claim.value) (by_part pieces p) at_claim.rest c at_claim.second in
    let part = part_is at_claim.value at_part.front at_part.value range.0 range.1 at_part.first in
    let made : Certificate = record { position = p; claim = claim_of at_part.value; pieces = pieces; parts = at_part.value ∷ [] } in
    let text : bytes ≡ certificate_sheet made =
    at_claim.is ∙ (λ i. (code.1 ∙ ap (λ n. mark n ∷ []) part.claimed) i ++ (at_part.is ∙ (λ j. part.spelled j ++ at_part.second.0 j)) i) in
    let fine : IsGoodShown pieces p made = record {
      shown = record { position = refl; table = refl; claim = refl; ranks = All-cons HasShortRanks at_part.value [] part.ranks (All-nil HasShortRanks) };
      counted = All-cons HasShortCount at_part.value [] part.counted (All-nil HasShortCount);
    } in
    subst (λ d. All (IsGoodShown pieces p) (before ++ d ∷ []) × (bytes ≡ certificate_sheet d)) at_part.second.1 (All-push (IsGoodShown pieces p) before made good fine, text)

certificate_spells_of : (pieces : ℕ) (p : Board) (before : List Certificate) (where_at : Board) (claimed : Claim) (table : ℕ) (parts : List Part)
    → where_at ≡ p → table ≡ pieces → map claim_of parts ≡ claimed ∷ [] → All HasShortRanks parts → All HasShortCount parts
    → SpellsSheet (certificate_order pieces p before) (mark (claim_byte claimed) ∷ flat_map part_sheet parts) (record { position = where_at; claim = claimed; pieces = table; parts = parts })
certificate_spells_of pieces p before where_at claimed table [] same_p same_table claims low counted = absurd (cc)
certificate_spells_of pieces p before where_at claimed table (one_part ∷ other ∷ more) same_p same_table claims low counted = absurd (cc)
certificate_spells_of pieces p before where_at claimed table (part ∷ []) same_p same_table claims low counted =
    let own : claim_of part ≡ claimed = cc in
    let spelled = part_spells part (All-head HasShortCount part [] counted) (All-head HasShortRanks part [] low) in
    let made : Certificate = record { position = p; claim = claim_of part; pieces = pieces; parts = part ∷ [] } in
    let whole : made ≡ record { position = where_at; claim = claimed; pieces = table; parts = part ∷ [] } =
    λ i. record { position = sym same_p i; claim = own i; pieces = sym same_table i; parts = part ∷ [] } in
    subst (λ c. SpellsSheet (certificate_order pieces p before) (mark (claim_byte claimed) ∷ flat_map part_sheet (part ∷ [])) c) whole
    (subst (λ s. SpellsSheet (certificate_order pieces p before) (mark (claim_byte s) ∷ flat_map part_sheet (part ∷ [])) made) own
    (sheet_then (one (byte (is_between 1 4))) (behind_claim pieces p) (mark (claim_byte (claim_of part)) ∷ []) (part_sheet part ++ []) (claim_byte (claim_of part)) made
    (one_on_sheet (byte (is_between 1 4)) (claim_byte (claim_of part)) (is-between 1 4 (claim_byte (claim_of part)) spelled.least spelled.most))
    (sheet_then (part_order (claim_byte (claim_of part))) (by_part pieces p) (part_sheet part) [] part made spelled.spells (refl, refl))))

certificate_spells : (pieces : ℕ) (p : Board) (before : List Certificate) (c : Certificate) (more : List Certificate) → All (IsGoodShown pieces p) (before ++ c ∷ more)
    → SpellsSheet (certificate_order pieces p before) (certificate_sheet c) c
certificate_spells pieces p before c more good =
    let fine = here_all (IsGoodShown pieces p) before c more good in
    certificate_spells_of pieces p before c.position c.claim c.pieces c.parts fine.shown.position fine.shown.table fine.shown.claim fine.shown.ranks fine.counted

-- ---- records

all_shown : (pieces : ℕ) (p : Board) (cs : List Certificate) → All (IsGoodShown pieces p) cs → All (IsShown pieces p) cs
all_shown pieces p [] all = All-nil (IsShown pieces p)
all_shown pieces p (c ∷ cs) all =
    All-cons (IsShown pieces p) c cs (All-head (IsGoodShown pieces p) c cs all).shown (all_shown pieces p cs (All-tail (IsGoodShown pieces p) c cs all))

all_counted : (pieces : ℕ) (p : Board) (cs : List Certificate) → All (IsGoodShown pieces p) cs → All (λ c. All HasShortCount c.parts) cs
all_counted pieces p [] all = All-nil (λ c. All HasShortCount c.parts)
all_counted pieces p (c ∷ cs) all =
    All-cons (λ c. All HasShortCount c.parts) c cs (All-head (IsGoodShown pieces p) c cs all).counted (all_counted pieces p cs (All-tail (IsGoodShown pieces p) c cs all))

all_good : (pieces : ℕ) (p : Board) (cs : List Certificate) → All (IsShown pieces p) cs → All (λ c. All HasShortCount c.parts) cs → All (IsGoodShown pieces p) cs
all_good pieces p [] shown counted = All-nil (IsGoodShown pieces p)
all_good pieces p (c ∷ cs) shown counted =
    All-cons (IsGoodShown pieces p) c cs (record { shown = All-head (IsShown pieces p) c cs shown; counted = All-head (λ d. All HasShortCount d.parts) c cs counted })
    (all_good pieces p cs (All-tail (IsShown pieces p) c cs shown) (All-tail (λ d. All HasShortCount d.parts) c cs counted))

pub none_before : (p : Board) → ¬ Contains [] p
none_before p there = Contains-nil p there

-- what is due behind a node, its position, the number of certificates, and the certificates
abbrev pub solved : ℕ → Board → List Certificate → Format BenchRecord
solved node p shown = done (Solve node p shown)

abbrev pub behind_count : ℕ → ℕ → Board → ℕ → Format BenchRecord
behind_count pieces node p count = many count (certificate_order pieces p) [] >>= solved node p

abbrev pub behind_position : ℕ → ℕ → Board → Format BenchRecord
behind_position pieces node p = one (byte (is_between 1 4)) >>= behind_count pieces node p

abbrev pub behind_node : ℕ → ℕ → Format BenchRecord
behind_node pieces node = one (position []) >>= behind_position pieces node

-- a record's sheet
record IsOn (pieces : ℕ) (r : BenchRecord) (sheet : Sheet) : Type 0 where
  shows : ShowsEnough pieces r
  sound : IsSoundRecord r
  is : sheet ≡ record_sheet r

-- .. of the record that has these kinds
record IsOfKind (pieces full short_one : ℕ) (r : BenchRecord) (sheet : Sheet) : Type 0 where
  on : IsOn pieces r sheet
  full_is : full ≡ full_kind r
  short_is : short_one ≡ short_kind r

begin_is : (pieces : ℕ) (r : BenchRecord) (sheet : Sheet) → SpellsSheet begin_order sheet r → IsOfKind pieces 1 4 r sheet
begin_is pieces r sheet spells =
    let at_p = sheet_cut (one (position [])) (λ q. done (Begin q)) sheet r spells in
    let p = one_sheet (position []) at_p.front at_p.value at_p.first in
    subst (λ s. IsOfKind pieces 1 4 s sheet) at_p.second.1 (record {
      on = record {
        shows = tt;
        sound = p.0.0;
        is = at_p.is ∙ (λ i. p.1 i ++ at_p.second.0 i);
      };
      full_is = refl;
      short_is = refl;
    })

expand_is : (pieces : ℕ) (r : BenchRecord) (sheet : Sheet) → SpellsSheet expand_order sheet r → IsOfKind pieces 3 3 r sheet
expand_is pieces r sheet spells =
    let at_node = sheet_cut (one (long (2 ^ 64 - 1))) (λ n. done (Expand n)) sheet r spells in
    let node = one_sheet (long (2 ^ 64 - 1)) at_node.front at_node.value at_node.first in
    subst (λ s. IsOfKind pieces 3 3 s sheet) at_node.second.1 (record {
      on = record {
        shows = tt;
        sound = node.0.0;
        is = at_node.is ∙ (λ i. node.1 i ++ at_node.second.0 i) ∙ append-nil (marks (long_text at_node.value));
      };
      full_is = refl;
      short_is = refl;
    })

solve_is : (pieces : ℕ) (r : BenchRecord) (sheet : Sheet) → SpellsSheet (solve_order pieces) sheet r → IsOfKind pieces 2 5 r sheet
solve_is pieces r sheet spells =
    let at_node = sheet_cut (one (long (2 ^ 64 - 1))) (behind_node pieces) sheet r spells in
    let node = one_sheet (long (2 ^ 64 - 1)) at_node.front at_node.value at_node.first in
    let at_p = sheet_cut (one (position [])) (behind_position pieces at_node.value) at_node.rest r at_node.second in
    let p = one_sheet (position []) at_p.front at_p.value at_p.first in
    let at_count = sheet_cut (one (byte (is_between 1 4))) (behind_count pieces at_node.value at_p.value) at_p.rest r at_p.second in
    let count = one_sheet (byte (is_between 1 4)) at_count.front at_count.value at_count.first in
    let range = between 1 4 at_count.value count.0 in
    let at_shown = sheet_cut (many at_count.value (certificate_order pieces at_p.value) []) (solved at_node.value at_p.value) at_count.rest r at_count.second in
    let made = many_text (certificate_order pieces at_p.value) certificate_sheet (All (IsGoodShown pieces at_p.value)) (certificate_is pieces at_p.value)
    at_count.value [] at_shown.value at_shown.front (All-nil (IsGoodShown pieces at_p.value)) at_shown.first in
    let shown : at_shown.value ≡ made.more = made.is in
    let size : length at_shown.value ≡ at_count.value = ap length shown ∙ made.count in
    let least : 1 ≤ length at_shown.value = let k = range.0 in omega arith in
    let most : length at_shown.value ≤ 4 = let k = range.1 in omega arith in
    subst (λ s. IsOfKind pieces 2 5 s sheet) at_shown.second.1 (record {
      on = record {
        shows = (least, (most, all_shown pieces at_p.value at_shown.value made.good));
        sound = (node.0.0, (p.0.0, all_counted pieces at_p.value at_shown.value made.good));
        is = at_node.is ∙ (λ i. node.1 i ++ (at_p.is ∙ (λ j. p.1 j ++ (at_count.is ∙ (λ k. (count.1 ∙ ap (λ n. mark n ∷ []) (sym size)) k
            ++ (at_shown.is ∙ ap (λ t. at_shown.front ++ t) at_shown.second.0 ∙ append-nil at_shown.front ∙ made.spelled ∙ ap (flat_map certificate_sheet) (sym shown)) k)) j)) i);
      };
      full_is = refl;
      short_is = refl;
    })

-- what is due behind the kind, of version 1 and of version 2
data Sort : Type 0 where
  begins : Sort
  solves : Sort
  expands : Sort

abbrev order_of : ℕ → Sort → Format BenchRecord
order_of pieces begins = begin_order
order_of pieces solves = solve_order pieces
order_of pieces expands = expand_order

abbrev full_of : Sort → ℕ
full_of begins = 1
full_of solves = 2
full_of expands = 3

abbrev short_of : Sort → ℕ
short_of begins = 4
short_of solves = 5
short_of expands = 3

sort_is : (pieces : ℕ) (sort : Sort) (r : BenchRecord) (sheet : Sheet) → SpellsSheet (order_of pieces sort) sheet r → IsOfKind pieces (full_of sort) (short_of sort) r sheet
sort_is pieces begins r sheet spells = begin_is pieces r sheet spells
sort_is pieces solves r sheet spells = solve_is pieces r sheet spells
sort_is pieces expands r sheet spells = expand_is pieces r sheet spells

full_record : (named : List Board) (pieces : ℕ) (sort : Sort) (r : BenchRecord) (bytes : List ℕ) → SpellsValue (order_of pieces sort) bytes r → IsTextFor pieces named r (full_of sort ∷ bytes)
full_record named pieces sort r bytes spells =
    let on = full_is (order_of pieces sort) bytes r spells in
    let kind = sort_is pieces sort r on.sheet on.spells in
    record { shows = kind.on.shows; sound = kind.on.sound; spelled = inl (λ i. kind.full_is i ∷ (on.is ∙ ap full_text kind.on.is) i) }

short_record : (named : List Board) (pieces : ℕ) (sort : Sort) (r : BenchRecord) (bytes : List ℕ) → IsNamed named → SpellsValue (numbered named (order_of pieces sort)) bytes r
    → IsTextFor pieces named r (short_of sort ∷ bytes)
short_record named pieces sort r bytes is spells =
    let made : BenchRecord × List Board → Format BenchRecord = λ r. done r.0 in
    let cut = spells_cut (noting named (order_of pieces sort)) made bytes r spells in
    let first = subst (λ s. SpellsValue (noting named (order_of pieces sort)) cut.front (s, cut.value.1)) cut.second.1 cut.first in
    let on = noting_is named (order_of pieces sort) cut.front r cut.value.1 is first in
    let kind = sort_is pieces sort r on.sheet on.spells in
    let whole : bytes ≡ short_sheet named (record_sheet r) = cut.is ∙ ap (λ t. cut.front ++ t) cut.second.0 ∙ append-nil cut.front ∙ on.is ∙ ap (short_sheet named) kind.on.is in
    record {
      shows = kind.on.shows;
      sound = kind.on.sound;
      spelled = inr ((λ i. kind.short_is i ∷ whole i), subst (λ l. length l < 2 ^ 32) (on.list ∙ ap (named_by named) kind.on.is) on.sound.few);
    }

kind_is : (named : List Board) (pieces kind : ℕ) (r : BenchRecord) (bytes : List ℕ) → IsNamed named → 1 ≤ kind → kind ≤ 5 → SpellsValue (kind_order named pieces kind) bytes r → IsTextFor pieces named r (kind ∷ bytes)
kind_is named pieces zero r bytes is least most spells = absurd (omega arith)
kind_is named pieces (suc zero) r bytes is least most spells = full_record named pieces begins r bytes spells
kind_is named pieces (suc (suc zero)) r bytes is least most spells = full_record named pieces solves r bytes spells
kind_is named pieces (suc (suc (suc zero))) r bytes is least most spells = full_record named pieces expands r bytes spells
kind_is named pieces (suc (suc (suc (suc zero)))) r bytes is least most spells = short_record named pieces begins r bytes is spells
kind_is named pieces (suc (suc (suc (suc (suc zero))))) r bytes is least most spells = short_record named pieces solves r bytes is spells
kind_is named pieces (suc (suc (suc (suc (suc (suc n)))))) r bytes is least most spells = absurd (omega arith)

pub spelled_is_text : (named : List Board) (pieces : ℕ) (r : BenchRecord) (bytes : List ℕ) → IsNamed named → SpellsValue (record_order named pieces) bytes r → IsTextFor pieces named r bytes
spelled_is_text named pieces r bytes is spells =
    let at_kind = spells_cut (one (byte (is_between 1 5))) (kind_order named pieces) bytes r spells in
    let kind = one_text (byte (is_between 1 5)) at_kind.front at_kind.value at_kind.first in
    let range = between 1 5 at_kind.value kind.0 in
    subst (IsTextFor pieces named r) (sym (at_kind.is ∙ ap (λ t. t ++ at_kind.rest) kind.1)) (kind_is named pieces at_kind.value r at_kind.rest is range.0 range.1 at_kind.second)

-- ---- a text is spelled

solve_spells : (pieces node : ℕ) (p : Board) (shown : List Certificate) → node < 2 ^ 64 → IsLawful p → 1 ≤ length shown → length shown ≤ 4 → All (IsGoodShown pieces p) shown
    → SpellsSheet (solve_order pieces) (record_sheet (Solve node p shown)) (Solve node p shown)
solve_spells pieces node p shown wide lawful least most good =
    let all = many_spells (certificate_order pieces p) certificate_sheet (All (IsGoodShown pieces p)) (certificate_spells pieces p) [] shown good in
    sheet_then (one (long (2 ^ 64 - 1))) (behind_node pieces) (marks (long_text node)) (name p ∷ mark (length shown) ∷ flat_map certificate_sheet shown) node (Solve node p shown)
    (one_on_sheet (long (2 ^ 64 - 1)) node (wide, omega arith))
    (sheet_then (one (position [])) (behind_position pieces node) (name p ∷ []) (mark (length shown) ∷ flat_map certificate_sheet shown) p (Solve node p shown) (one_on_sheet (position []) p (lawful, none_before p))
    (sheet_then (one (byte (is_between 1 4))) (behind_count pieces node p) (mark (length shown) ∷ []) (flat_map certificate_sheet shown) (length shown) (Solve node p shown)
    (one_on_sheet (byte (is_between 1 4)) (length shown) (is-between 1 4 (length shown) least most))
    (subst (λ t. SpellsSheet (many (length shown) (certificate_order pieces p) [] >>= (solved node p)) t (Solve node p shown)) (append-nil (flat_map certificate_sheet shown))
    (sheet_then (many (length shown) (certificate_order pieces p) []) (solved node p) (flat_map certificate_sheet shown) [] shown (Solve node p shown) all (refl, refl)))))

-- the record, its sort, and what spells it
record Sorted (pieces : ℕ) (r : BenchRecord) : Type 0 where
  sort : Sort
  spells : SpellsSheet (order_of pieces sort) (record_sheet r) r
  full_is : full_kind r ≡ full_of sort
  short_is : short_kind r ≡ short_of sort

sorted : (pieces : ℕ) (r : BenchRecord) → ShowsEnough pieces r → IsSoundRecord r → Sorted pieces r
sorted pieces (Begin p) shows sound = record {
  sort = begins;
  spells = sheet_then (one (position [])) (λ q. done (Begin q)) (name p ∷ []) [] p (Begin p) (one_on_sheet (position []) p (sound, none_before p)) (refl, refl);
  full_is = refl;
  short_is = refl;
}
sorted pieces (Solve node p shown) shows sound = record {
  sort = solves;
  spells = solve_spells pieces node p shown sound.0 sound.1.0 shows.0 shows.1.0 (all_good pieces p shown shows.1.1 sound.1.1);
  full_is = refl;
  short_is = refl;
}
sorted pieces (Expand node) shows sound = record {
  sort = expands;
  spells =
      let wide = sound in
      subst (λ t. SpellsSheet expand_order t (Expand node)) (append-nil (marks (long_text node)))
      (sheet_then (one (long (2 ^ 64 - 1))) (λ n. done (Expand n)) (marks (long_text node)) [] node (Expand node) (one_on_sheet (long (2 ^ 64 - 1)) node (wide, omega arith)) (refl, refl));
  full_is = refl;
  short_is = refl;
}

spelled_kind : (named : List Board) (pieces kind : ℕ) (r : BenchRecord) (bytes : List ℕ) → IsTrue (is_between 1 5 kind) → SpellsValue (kind_order named pieces kind) bytes r → SpellsValue (record_order named pieces) (kind ∷ bytes) r
spelled_kind named pieces kind r bytes range spells =
    spells_then (one (byte (is_between 1 5))) (kind_order named pieces) (kind ∷ []) bytes kind r (one_spells (byte (is_between 1 5)) kind range) spells

full_sort : (named : List Board) (pieces : ℕ) (sort : Sort) (r : BenchRecord) (bytes : List ℕ) → SpellsValue (order_of pieces sort) bytes r → SpellsValue (record_order named pieces) (full_of sort ∷ bytes) r
full_sort named pieces begins r bytes spells = spelled_kind named pieces 1 r bytes refl spells
full_sort named pieces solves r bytes spells = spelled_kind named pieces 2 r bytes refl spells
full_sort named pieces expands r bytes spells = spelled_kind named pieces 3 r bytes refl spells

-- of a record without positions both versions are one
no_name : (node : ℕ) (named : List Board) → short_sheet named (marks (long_text node)) ≡ full_text (marks (long_text node))
no_name node named = by (long_text node)
  where
    by : (bytes : List ℕ) → short_sheet named (marks bytes) ≡ full_text (marks bytes)
    by [] = refl
    by (n ∷ bytes) = ap (λ t. n ∷ t) (by bytes)

pub text_is_spelled : (named : List Board) (pieces : ℕ) (r : BenchRecord) (bytes : List ℕ) → IsTextFor pieces named r bytes → SpellsValue (record_order named pieces) bytes r
text_is_spelled named pieces r bytes text = by text.spelled
  where
    known : Sorted pieces r
    known = sorted pieces r text.shows text.sound

    in_full : bytes ≡ full_kind r ∷ full_text (record_sheet r) → SpellsValue (record_order named pieces) bytes r
    in_full is =
        subst (λ t. SpellsValue (record_order named pieces) t r) (sym (is ∙ ap (λ k. k ∷ full_text (record_sheet r)) known.full_is))
        (full_sort named pieces known.sort r (full_text (record_sheet r)) (full_spells (order_of pieces known.sort) (record_sheet r) r known.spells))

    made : BenchRecord × List Board → Format BenchRecord
    made q = done q.0

    by_numbers : length (named_by named (record_sheet r)) < 2 ^ 32 → SpellsValue (numbered named (order_of pieces known.sort)) (short_sheet named (record_sheet r)) r
    by_numbers few =
        subst (λ t. SpellsValue (numbered named (order_of pieces known.sort)) t r) (append-nil (short_sheet named (record_sheet r)))
        (spells_then (noting named (order_of pieces known.sort)) made (short_sheet named (record_sheet r)) [] (r, named_by named (record_sheet r)) r
        (noting_spells named (order_of pieces known.sort) (record_sheet r) r known.spells few) (refl, refl))

    short_sort : (sort : Sort) → known.sort ≡ sort → bytes ≡ short_of sort ∷ short_sheet named (record_sheet r) → SpellsValue (numbered named (order_of pieces sort)) (short_sheet named (record_sheet r)) r → SpellsValue (record_order named pieces) bytes r
    short_sort begins same is spells = subst (λ t. SpellsValue (record_order named pieces) t r) (sym is) (spelled_kind named pieces 4 r (short_sheet named (record_sheet r)) refl spells)
    short_sort solves same is spells = subst (λ t. SpellsValue (record_order named pieces) t r) (sym is) (spelled_kind named pieces 5 r (short_sheet named (record_sheet r)) refl spells)
    short_sort expands same is spells = expanded r refl
      where
        expanded : (s : BenchRecord) → r ≡ s → SpellsValue (record_order named pieces) bytes r
        expanded (Expand node) own = in_full (is ∙ (λ i. 3 ∷ same_sheet i) ∙ ap (λ k. k ∷ full_text (record_sheet r)) (sym (ap full_kind own)))
          where
            same_sheet : short_sheet named (record_sheet r) ≡ full_text (record_sheet r)
            same_sheet = ap (λ s. short_sheet named (record_sheet s)) own ∙ no_name node named ∙ ap (λ s. full_text (record_sheet s)) (sym own)
        expanded (Begin p) own = absurd (let k = ap short_kind own in let l = known.short_is ∙ ap short_of same in omega arith)
        expanded (Solve node p shown) own = absurd (let k = ap short_kind own in let l = known.short_is ∙ ap short_of same in omega arith)

    by : (bytes ≡ full_kind r ∷ full_text (record_sheet r)) ⊎ ((bytes ≡ short_kind r ∷ short_sheet named (record_sheet r)) × (length (named_by named (record_sheet r)) < 2 ^ 32)) → SpellsValue (record_order named pieces) bytes r
    by (inl is) = in_full is
    by (inr (is, few)) = short_sort known.sort refl (is ∙ ap (λ k. k ∷ short_sheet named (record_sheet r)) known.short_is) (by_numbers few)
