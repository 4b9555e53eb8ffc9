use Rattle.std.proofs.Common.{refl, sym, arith, lit≤}
use Rattle.std.proofs.lemmas.Bool.{true≢false}
use Rattle.shared_words.proofs.examples.worked_words.Goals as goal

pub returns : goal.returns
returns c = record {
  bare = refl;
  ended = λ h. true≢false h;
  by_one = lit≤ tt;
  by_more = lit≤ tt;
  not_at_all = λ h. omega arith;
  at_the_last = lit≤ tt;
}
