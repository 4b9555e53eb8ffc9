-- Bytes, and the texts that they stand in.
use Rattle.std.specs.Prelude.{◌≡◌, ℕ, List, false, ◌==◌}
use Rattle.std.specs.List.{list_any}

-- the byte that ends a line
abbrev pub line_end : ℕ
line_end = 10

-- the byte does not stand in the text
abbrev pub Lacks : ℕ → List ℕ → Type 0
Lacks byte text = list_any (λ b. b == byte) text ≡ false
