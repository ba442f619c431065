-- What a code under way has been given.
use Rattle.std.specs.Prelude.{ℕ, List, ◌++◌}
use Rattle.sha2.specs.Hashers.{Holds256}
use Rattle.fedi_mac.specs.declared.mac.Mac.{Mac}
use Rattle.fedi_mac.specs.Hmac.{inner_block, outer_block}

-- it was made for this key, and the pieces since then are this text
pub record IsFed (m : Mac) (key text : List ℕ) : Type 0 where
  pub inner : Holds256 m.inner (inner_block key ++ text)
  pub outer : Holds256 m.outer (outer_block key)
