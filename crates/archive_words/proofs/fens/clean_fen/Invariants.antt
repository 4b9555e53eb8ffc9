use Rattle.std.proofs.Common.{◌≡◌, ◌≤◌, ◌++◌, drop, true, count_by}
use Rattle.std.specs.List.{list_all}
use Rattle.archive_words.specs.Fens.{cleaned, cleaned_from, is_clean, is_colon}
use Rattle.archive_words.proofs.fens.clean_fen.Given as goal

abbrev pub invariant-loop-b : goal.invariant-loop-b
invariant-loop-b l = record {
  value : l.fen.items ++ cleaned_from l.last l.is_behind_blank l.colons (drop l.b-index l.text) ≡ cleaned l.text;
  clean : list_all is_clean l.fen.items ≡ true;
  counted : count_by is_colon l.fen.items ≡ l.colons;
  few : l.colons ≤ 2;
}
