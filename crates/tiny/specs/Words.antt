-- Refusals before the parse, and the classes of tokens, in words.
use Rattle.std.specs.Prelude.{ℕ, List, codes}
use Rattle.tiny.specs.declared.faults.ScanCause.{ScanCause}
use Rattle.tiny.specs.declared.faults.ScanCause.TheVariants.{TooLong, NoToken, TooLarge, TooMany}
use Rattle.tiny.specs.declared.tokens.Class.{Class}

abbrev pub cause_words : ScanCause → List ℕ
cause_words TooLong = codes "the source is longer than 16384 bytes"
cause_words NoToken = codes "no token begins with this byte"
cause_words TooLarge = codes "this literal is outside int, -2147483648 to 2147483647"
cause_words TooMany = codes "this is the 2049th token, and 2048 are the most"

abbrev pub class_words : Class → List ℕ
class_words Class.Name = codes "name"
class_words Class.Literal = codes "literal"
class_words Class.Word = codes "word"
class_words Class.Unused = codes "word of no rule"
class_words Class.Symbol = codes "symbol"
