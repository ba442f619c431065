-- Requests, and lines of statuses, one after the other.
use Rattle.std.proofs.Common.{arith, ap, append_assoc, sym, ◌≡◌, ◌∙◌, ◌<◌, ◌+◌, ◌-◌, ◌++◌, ℕ, suc, List}
use Rattle.fedi_demo.specs.Draws.{after_four, four_drawn, state_after}
use Rattle.fedi_demo.specs.Requests.{request_text, requests_text}
use Rattle.fedi_demo.specs.Summary.{status_count, status_counts}

-- if any are left, the first of them is the current one
left_is : (count done : ℕ) → done < count → count - done ≡ suc (count - (done + 1))
left_is count done short = omega (arith, short)

-- one more request after the text
pub one_more : (text all : List ℕ) (state first count done : ℕ) → done < count
    → text ++ requests_text state (first + done) (count - done) ≡ all
    → (text ++ request_text (first + done) (four_drawn state))
    ++ requests_text (after_four state) (first + (done + 1)) (count - (done + 1)) ≡ all
one_more text all state first count done short before =
    let number : suc (first + done) ≡ first + (done + 1) = omega (arith) in
    append_assoc text (request_text (first + done) (four_drawn state)) _
    ∙ ap (λ n. text ++ (request_text (first + done) (four_drawn state)
    ++ requests_text (after_four state) n (count - (done + 1)))) (sym number)
    ∙ ap (λ n. text ++ requests_text state (first + done) n) (sym (left_is count done short))
    ∙ before

-- the state advances with it
pub state_more : (state end count done : ℕ) → done < count
    → state_after state (count - done) ≡ end
    → state_after (after_four state) (count - (done + 1)) ≡ end
state_more state end count done short before =
    ap (state_after state) (sym (left_is count done short)) ∙ before

-- one more line of a status after the text
pub one_more_status : (text all statuses : List ℕ) (first count done : ℕ) → done < count
    → text ++ status_counts statuses (first + done) (count - done) ≡ all
    → (text ++ status_count statuses (first + done))
    ++ status_counts statuses (first + (done + 1)) (count - (done + 1)) ≡ all
one_more_status text all statuses first count done short before =
    let number : suc (first + done) ≡ first + (done + 1) = omega (arith) in
    append_assoc text (status_count statuses (first + done)) _
    ∙ ap (λ n. text ++ (status_count statuses (first + done)
    ++ status_counts statuses n (count - (done + 1)))) (sym number)
    ∙ ap (λ n. text ++ status_counts statuses (first + done) n) (sym (left_is count done short))
    ∙ before
