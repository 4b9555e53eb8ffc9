-- What the line behind a whole part says.
use Rattle.certificate_text.specs.Lines.{Line, win, hold, end}
use Rattle.certificate_text.specs.declared.lines.Heading.{Heading}
use Rattle.certificate_text.specs.declared.lines.Heading.TheVariants.{Win, Hold, End}

abbrev pub said : Heading → Line
said (Win side count) = win side count
said (Hold side count) = hold side count
said End = end
