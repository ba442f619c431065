-- The numbers that determine a demonstration.
use Rattle.fedi_demo.specs.declared.draws.Four.{Four}
use Rattle.std.specs.Prelude.{ℕ, zero, suc, ◌+◌, ◌*◌, ◌/◌, ◌%◌, ◌^◌}

-- the state after one draw
abbrev pub next_state : ℕ → ℕ
next_state state = (1103515245 * state + 12345) % 2 ^ 31

-- the number that one draw gives
abbrev pub drawn : ℕ → ℕ
drawn state = next_state state / 65536

-- the state after two draws
abbrev pub after_two : ℕ → ℕ
after_two state = next_state (next_state state)

-- the state after three draws
abbrev pub after_three : ℕ → ℕ
after_three state = next_state (after_two state)

-- the state after four draws
abbrev pub after_four : ℕ → ℕ
after_four state = next_state (after_three state)

-- four draws from a state on
abbrev pub four_drawn : ℕ → Four
four_drawn state = record {
  a = drawn state;
  b = drawn (next_state state);
  c = drawn (after_two state);
  d = drawn (after_three state);
}

-- the state after drawing four numbers this many times
abbrev pub state_after : ℕ → ℕ → ℕ
state_after state zero = state
state_after state (suc count) = state_after (after_four state) count
