-- Texts that have several owners.
use Rattle.std.specs.Prelude.{ℕ, List, string_bytes}
use Rattle.fedi_address.specs.declared.block.Block.{Block}
use Rattle.fedi_address.specs.declared.block.Block.TheVariants.{Short, Long}

-- the text in a block
abbrev pub text_in : Block → List ℕ
text_in (Short text) = text.bytes
text_in (Long text) = string_bytes text
