use Rattle.std.proofs.Common.{◌≡◌, ◌++◌, ◌%◌, ◌<◌, length, List, ℕ, arith}
use Rattle.endgame_table.specs.Bytes.{number_bytes}
use Rattle.table_checker.proofs.ByteLemmas.{all_read, number_split, read_more, rest_shorter, words_more}
use Rattle.table_checker.proofs.bytes.read_numbers.Goals as goal

pub loop-number-preserved : goal.loop-number-preserved
loop-number-preserved c =
    let rest : List ℕ = c.loop-number.rest.now in
    let behind : List ℕ = c.in-Some.behind.now in
    let n : ℕ = c.in-Some.number in
    let split : rest ≡ number_bytes n ++ behind = number_split rest behind n c.in-Some.ensures.some.1 in
    let shorter = rest_shorter rest behind n split in
    record {
      read = read_more c.args.bytes.now rest behind _ c.push.new.self.items n c.loop-number.invariant.read split c.in_ok-push.ensures.items;
      words = words_more _ c.push.new.self.items n c.loop-number.invariant.words c.in-Some.ensures.some.0 c.in_ok-push.ensures.items;
      whole = omega (arith, shorter, c.loop-number.invariant.whole);
    }

pub returns-clause-bytes : goal.returns-clause-bytes
returns-clause-bytes c = all_read c.args.bytes.now c.loop-number.rest.now c.loop-number.numbers.items c.loop-number.invariant.read c.in_default.ensures.none c.loop-number.invariant.whole
