-- All records of a journal, as text or as JSON.
use Rattle.std.specs.Prelude.{ℕ, ◌+◌, List, [], ◌∷◌, ◌++◌, Bool, true, false, length}
use Rattle.bench_records.specs.declared.records.BenchRecord.{BenchRecord}
use Rattle.proof_tree.specs.Forest.{Forest}
use Rattle.record_texts.specs.Json.{json_count, json_record}
use Rattle.record_texts.specs.Records.{begun_with, count_line, is_end, record_line}

-- a record as JSON or as a line
abbrev pub record_text : Bool → Forest → ℕ → ℕ → Bool → BenchRecord → List ℕ
record_text true roots place begun is_last r = json_record roots place begun is_last r
record_text false roots place begun is_last r = record_line roots place begun is_last r

-- records, the first of which has this place, counted from 1, and this many roots before it
abbrev pub record_lines : Bool → Forest → ℕ → ℕ → List BenchRecord → List ℕ
record_lines json roots place begun [] = []
record_lines json roots place begun (r ∷ records) =
    record_text json roots place begun (is_end records) r
    ++ record_lines json roots (place + 1) (begun_with begun r) records

-- how many there are
abbrev pub count_text : Bool → ℕ → List ℕ
count_text true n = json_count n
count_text false n = count_line n

-- all records, of which these are the roots, and how many there are
abbrev pub records_text : Bool → Forest → List BenchRecord → List ℕ
records_text json roots records =
    record_lines json roots 1 0 records ++ count_text json (length records)
