-- The four flags of a `Facts`.
use Rattle.std.specs.Prelude.{false}
use Rattle.std.proofs.lemmas.Bool.{false≢true}
use Rattle.proof_numbers.specs.Known.{Known}
use Rattle.proof_numbers.specs.declared.facts.Facts.{Facts}

abbrev pub known : Facts → Known
known facts =
    record {
      black_wins = facts.black_wins;
      white_wins = facts.white_wins;
      black_holds = facts.black_holds;
      white_holds = facts.white_holds;
    }

-- nothing is known
abbrev pub no_facts : Facts
no_facts =
    record {
      black_wins = false;
      white_wins = false;
      black_holds = false;
      white_holds = false;
      black = λ h. absurd (false≢true h);
      white = λ h. absurd (false≢true h);
    }
