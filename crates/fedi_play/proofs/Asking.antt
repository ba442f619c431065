-- Why a line asks for no event.
use Rattle.std.proofs.Common.{◌≡◌, ◌∙◌, ℕ, List, Option, Some, None, inl, inr, sym}
use Rattle.std.specs.Prelude.{◌⊎◌, IsTrue}
use Rattle.fedi_address.specs.Names.{is_name}
use Rattle.fedi_script.specs.Lines as script
use Rattle.fedi_world.specs.declared.event.Event.{Event}
use Rattle.fedi_world.specs.declared.event.Event.TheVariants as events
use Rattle.fedi_play.specs.Playing.{AsksFor, server_in}

nowhere : (index : Option ℕ) (n : ℕ) → index ≡ None → index ≡ Some n → ⊥
nowhere index n none is =
    let clash : ◌≡◌ {A = Option ℕ} None (Some n) = sym none ∙ is in cc clash

-- there is no such server
pub claims_nowhere : (hosts : List (List ℕ)) (host : List ℕ) → server_in hosts host ≡ None
    → (e : Event) → AsksFor hosts (script.Claim host) e → ⊥
claims_nowhere hosts host none (events.Say n who content) asks = asks
claims_nowhere hosts host none (events.Claim n) asks = nowhere (server_in hosts host) n none asks
claims_nowhere hosts host none (events.Arrive k) asks = asks
claims_nowhere hosts host none (events.Reach j) asks = asks
claims_nowhere hosts host none (events.Lose number) asks = asks
claims_nowhere hosts host none (events.Crash n) asks = asks
claims_nowhere hosts host none (events.Wait time) asks = asks

pub crashes_nowhere : (hosts : List (List ℕ)) (host : List ℕ) → server_in hosts host ≡ None
    → (e : Event) → AsksFor hosts (script.Crash host) e → ⊥
crashes_nowhere hosts host none (events.Say n who content) asks = asks
crashes_nowhere hosts host none (events.Claim n) asks = asks
crashes_nowhere hosts host none (events.Arrive k) asks = asks
crashes_nowhere hosts host none (events.Reach j) asks = asks
crashes_nowhere hosts host none (events.Lose number) asks = asks
crashes_nowhere hosts host none (events.Crash n) asks = nowhere (server_in hosts host) n none asks
crashes_nowhere hosts host none (events.Wait time) asks = asks

-- there is no such server, or its text is no name of a member
pub says_nowhere : (hosts : List (List ℕ)) (host name body : List ℕ)
    → (server_in hosts host ≡ None) ⊎ (IsTrue (is_name name) → ⊥)
    → (e : Event) → AsksFor hosts (script.Say host name body) e → ⊥
says_nowhere hosts host name body (inl none) (events.Say n who content) asks =
    nowhere (server_in hosts host) n none asks.0
says_nowhere hosts host name body (inr bad) (events.Say n who content) asks = bad asks.1
says_nowhere hosts host name body why (events.Claim n) asks = asks
says_nowhere hosts host name body why (events.Arrive k) asks = asks
says_nowhere hosts host name body why (events.Reach j) asks = asks
says_nowhere hosts host name body why (events.Lose number) asks = asks
says_nowhere hosts host name body why (events.Crash n) asks = asks
says_nowhere hosts host name body why (events.Wait time) asks = asks
