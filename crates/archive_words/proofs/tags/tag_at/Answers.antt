use Rattle.std.proofs.Common.{◌≡◌, ◌∙◌, ◌-◌, false, ap, drop, length, nat_eq, rules, sym, take, ℕ, List}
use Rattle.std.specs.Prelude.{slice_index}
use Rattle.std.specs.Char.{is_ascii_digit}
use Rattle.std.proofs.lemmas.List.{length-drop}
use Rattle.std.proofs.Math.Seq.{take-length}
use Rattle.archive_words.specs.Tags.{value_behind}
use Rattle.archive_words.proofs.FoundTags.{tag_found}
use Rattle.archive_words.proofs.tags.tag_at.Goals as goal

pub returns : goal.returns
returns c =
    let text : List ℕ = c.args.text.now in
    let len : ℕ = c.name_len-len.result in
    let some : nat_eq len 0 ≡ false = search rules in
    let letter : is_ascii_digit (slice_index text 0) ≡ false = search rules in
    let rest : take (length text - len) (drop len text) ≡ drop len text =
    ap (λ (n : ℕ). take n (drop len text)) (sym (length-drop len text)) ∙ take-length (drop len text) in
    tag_found text len (c.value_behind-is_quoted.result.0.now, c.value_behind-is_quoted.result.1)
    c.name_len-len.ensures.value some letter (c.value_behind-is_quoted.ensures ∙ ap value_behind rest)
