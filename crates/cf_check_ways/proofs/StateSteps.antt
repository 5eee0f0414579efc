-- The steps of the whole state that are not made of others.
use Rattle.std.proofs.Common.{◌≡◌, ◌<◌, ◌≤◌, ◌+◌, ◌&&◌, ℕ, Bool, true, false, List, [], ◌∷◌, ◌++◌, length, nat_lt, refl, ◌∙◌, ap, arith, length-append}
use Rattle.std.specs.Prelude.{Some, None}
use Rattle.std.proofs.lemmas.Bool.{lt-ltb, ltb-true}
use Rattle.cf_base.specs.declared.answers.Shown.{Shown}
use Rattle.cf_base.specs.declared.codes.Code.{Code}
use Rattle.cf_base.specs.declared.notices.Frame.{Frame}
use Rattle.cf_base.specs.declared.notices.Notice.TheVariants as notice
use Rattle.cf_model.specs.Callbacks.{operation_line, with_operation_told}
use Rattle.cf_model.specs.Messages.{fault_line, next_message, with_lost, with_message}
use Rattle.cf_model.specs.Numbers.{most}
use Rattle.cf_model.specs.Skips.{skip_line, skipped, with_volatile}
use Rattle.cf_model.specs.State.{State, Volatile}
use Rattle.cf_check_ways.specs.Ways.{IsPlain, fixed_state, of_state}
use Rattle.cf_check_ways.proofs.Sure.{plain_noting, plain_quiet}

pub volatile_plain : (f : Volatile → Volatile) → IsPlain of_state (with_volatile f)
volatile_plain f = plain_quiet of_state (with_volatile f) (λ s. refl) (λ s. refl) (λ s. refl) (λ s. refl) (λ s. refl) (λ s. refl)

abbrev counted_skip : State → State
counted_skip s = record s { running = record s.running { skips = s.running.skips + 1 } }

line_plain : (c : Code) (shows : Bool) → IsPlain of_state (λ s. skip_line shows c (counted_skip s))
line_plain c true = plain_noting of_state (λ s. skip_line true c (counted_skip s)) (λ s. notice.Skipped c ∷ []) (λ s. refl) (λ s. refl) (λ s. refl) (λ s. refl) (λ s. refl) (λ s. refl)
line_plain c false = plain_quiet of_state (λ s. skip_line false c (counted_skip s)) (λ s. refl) (λ s. refl) (λ s. refl) (λ s. refl) (λ s. refl) (λ s. refl)

pub skipped_plain : (c : Code) → IsPlain of_state (skipped c)
skipped_plain c = record {
  grows = λ s. (line_plain c s.running.shows_skips).grows s;
  core = λ s. (line_plain c s.running.shows_skips).core s;
  alike = λ s o e.
      (line_plain c s.running.shows_skips).alike s o e
      ∙ ap (λ (b : Bool). fixed_state (skip_line b c (counted_skip o))) (ap (λ (x : State). x.running.shows_skips) e);
}

pub fault_line_plain : (m : ℕ) → IsPlain of_state (fault_line m)
fault_line_plain m = plain_noting of_state (fault_line m) (λ s. notice.Fault m ∷ []) (λ s. refl) (λ s. refl) (λ s. refl) (λ s. refl) (λ s. refl) (λ s. refl)

pub with_operation_told_plain : (answer : Shown) → IsPlain of_state (with_operation_told answer)
with_operation_told_plain answer = plain_noting of_state (with_operation_told answer) (λ s. notice.Operation (operation_line answer) ∷ []) (λ s. refl) (λ s. refl) (λ s. refl) (λ s. refl) (λ s. refl) (λ s. refl)

-- fewer messages leave numbers too
pub fewer_good : (honest : Bool) (limit n m : ℕ) → n ≤ m → (honest && nat_lt m limit) ≡ true → (honest && nat_lt n limit) ≡ true
fewer_good false limit n m le h = h
fewer_good true limit n m le h = let lt : m < limit = ltb-true m limit h in lt-ltb n limit (omega (arith, le, lt))

one_longer : {X : Type 0} (xs : List X) (x : X) → length xs ≤ length (xs ++ x ∷ [])
one_longer xs x = let e : length (xs ++ x ∷ []) ≡ length xs + 1 = length-append xs (x ∷ []) in omega (arith, e)

one_counted : {X : Type 0} (xs : List X) (x : X) → length (xs ++ x ∷ []) ≤ length xs + 1
one_counted xs x = let e : length (xs ++ x ∷ []) ≡ length xs + 1 = length-append xs (x ∷ []) in omega (arith, e)

pub with_lost_plain : (f : Frame) → IsPlain of_state (with_lost f)
with_lost_plain f = record {
  grows = λ s. record {
    notes = (notice.Message (record { message = next_message s; frame = f; lost = true }) ∷ [], refl);
    counted = one_counted s.link.messages None;
    opens = refl;
    good = λ h. fewer_good s.link.honest most (length s.link.messages) (length (s.link.messages ++ None ∷ [])) (one_longer s.link.messages None) h;
  };
  alike = λ s o e. ap (λ (x : State). fixed_state (with_lost f x)) e;
  core = λ s. refl;
}

pub with_message_plain : (f : Frame) → IsPlain of_state (with_message f)
with_message_plain f = record {
  grows = λ s. record {
    notes = (notice.Message (record { message = next_message s; frame = f; lost = false }) ∷ [], refl);
    counted = one_counted s.link.messages (Some f);
    opens = refl;
    good = λ h. fewer_good s.link.honest most (length s.link.messages) (length (s.link.messages ++ Some f ∷ [])) (one_longer s.link.messages (Some f)) h;
  };
  alike = λ s o e. ap (λ (x : State). fixed_state (with_message f x)) e;
  core = λ s. refl;
}
