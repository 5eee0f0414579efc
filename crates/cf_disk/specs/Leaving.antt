-- How a run of calls goes on, by what a crash may leave.
use Rattle.std.proofs.Common.{inl, inr, ⊎_elim, ℕ, ◌+◌, ◌≤◌, List, arith}
use Rattle.cf_disk.specs.Disk.{State, Near, Follows, Keeps, Goes, Leaves}
use Rattle.cf_disk.specs.Parts.{same_wider, same_then}

pub leaves_weaker : (a b : State) (P Q : List ℕ → Type 0) → Leaves a b P → ((c : List ℕ) → P c → Q c) → Leaves a b Q
leaves_weaker a b P Q l f = record {
  later = l.later;
  now = λ c left. f c (l.now c left);
  since = λ t c le left. ⊎_elim (λ was. inl was) (λ p. inr (f c p)) (l.since t c le left);
}

pub leaves_then : (a b c : State) (P Q : List ℕ → Type 0) → Leaves a b P → Leaves b c Q → ((d : List ℕ) → Q d → P d) → Leaves a c P
leaves_then a b c P Q p q f = record {
  later = omega (arith, p.later, q.later);
  now = λ d left. f d (q.now d left);
  since = λ t d le left. ⊎_elim (p.since t d le) (λ h. inr (f d h)) (q.since t d (omega (arith, le, p.later)) left);
}

-- the first write
pub leaves_write : (a b : State) (at n : ℕ) → Follows at n a b → Goes a b → Leaves a b (Near a at n)
leaves_write a b at n follows goes = record {
  later = goes.later;
  now = follows;
  since = λ t c le left. ⊎_elim (λ was. inl was) (λ now. inr (follows c now)) (goes.since t c le left);
}

-- a read or a sync first
pub leaves_keep : (a b : State) → Keeps a b → Goes a b → Leaves a b a.may_leave
leaves_keep a b keeps goes = record {
  later = goes.later;
  now = keeps.crash;
  since = λ t c le left. ⊎_elim (λ was. inl was) (λ now. inr (keeps.crash c now)) (goes.since t c le left);
}

-- a read or a sync afterwards
pub leaves_on : (a b c : State) (P : List ℕ → Type 0) → Leaves a b P → Keeps b c → Goes b c → Leaves a c P
leaves_on a b c P l keeps goes = leaves_then a b c P b.may_leave l (leaves_keep b c keeps goes) l.now

-- another write in the range
pub near_on : (a b c : State) (at n k m : ℕ) → Leaves a b (Near a at n) → Follows k m b c → Goes b c → at ≤ k → k + m ≤ at + n → Leaves a c (Near a at n)
near_on a b c at n k m l follows goes low high = leaves_then a b c (Near a at n) (Near b k m) l (leaves_write b c k m follows goes)
    (λ d near. let was = l.now near.0 near.1 in (was.0, was.1, same_then at n was.0 near.0 d was.2 (same_wider at n k m near.0 d near.2 low high)))

pub near_wider : (a : State) (at n k m : ℕ) → at ≤ k → k + m ≤ at + n → (c : List ℕ) → Near a k m c → Near a at n c
near_wider a at n k m low high c near = (near.0, near.1, same_wider at n k m near.0 c near.2 low high)
