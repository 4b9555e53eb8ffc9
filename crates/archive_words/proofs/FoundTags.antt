-- A tag that begins with a name.
use Rattle.std.proofs.Common.{◌≡◌, ℕ, Bool, false, List, Some, ap, drop, nat_eq, sym, take}
use Rattle.std.specs.Prelude.{slice_index}
use Rattle.std.specs.Char.{is_ascii_digit}
use Rattle.archive_words.specs.Tags.{name_len, tag_at, value_behind}

pub tag_found : (text : List ℕ) (len : ℕ) (value : List ℕ × Bool) → len ≡ name_len text → nat_eq len 0 ≡ false
    → is_ascii_digit (slice_index text 0) ≡ false → value ≡ value_behind (drop len text)
    → tag_at text ≡ Some (take len text, value)
tag_found text len value is some letter behind =
    rw (sym is) (rw some (rw letter (ap (λ (v : List ℕ × Bool). Some (take len text, v)) (sym behind))))
