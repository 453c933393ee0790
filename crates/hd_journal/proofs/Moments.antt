-- How a run of calls of a disk goes on.
use Rattle.std.proofs.Common.{Bool, inl, inr, ⊎_elim, ℕ, ◌≤◌, List, refl, ◌∙◌, arith}
use Rattle.hd_journal.specs.Disk.{State, Elapses, Syncs, Marks, Leaves, LeavesMeanwhile}

module _ (P : List ℕ → List ℕ → Type 0) where
  pub started : (s : State) → Leaves P s s
  started s = record { later = omega arith; each = λ t l v le left. inl left; marks = refl }

  -- one call more
  pub goes_on : {a b c : State} → Leaves P a b → Elapses b c → ((l v : List ℕ) → c.may_leave l v → P l v) → Leaves P a c
  goes_on {a = a} {b = b} {c = c} so_far time here = record {
    later = (let x = so_far.later in let y = time.later in omega arith);
    each = λ t l v le left. (let x = so_far.later in
        ⊎_elim (λ past. so_far.each t l v le past) (λ now. inr (here l v now)) (time.nothing_else t l v (omega arith) left));
    marks = time.marks ∙ so_far.marks;
  }

  -- two runs, the one after the other
  pub followed : {a b c : State} → Leaves P a b → Leaves P b c → Leaves P a c
  followed {a = a} {b = b} {c = c} so_far more = record {
    later = (let x = so_far.later in let y = more.later in omega arith);
    each = λ t l v le left. (let x = so_far.later in
        ⊎_elim (λ past. so_far.each t l v le past) (λ p. inr p) (more.each t l v (omega arith) left));
    marks = more.marks ∙ so_far.marks;
  }

-- what has P has Q
pub weakened : {P Q : List ℕ → List ℕ → Type 0} {a b : State} → Leaves P a b → ((l v : List ℕ) → P l v → Q l v) → Leaves Q a b
weakened s f = record { later = s.later; each = λ t l v le left. ⊎_elim (λ past. inl past) (λ p. inr (f l v p)) (s.each t l v le left); marks = s.marks }

-- a sync leaves nothing that could not be left before it
pub synced : {a b : State} → Syncs a b → ((t : ℕ) (l v : List ℕ) → t ≤ a.moment → a.may_leave l v → a.left_since t l v) → Leaves (λ _ _. ⊥) a b
synced s counts = record { later = s.time.later; each = λ t l v le left. inl (⊎_elim (λ past. past) (λ now. counts t l v le (s.crash l v now)) (s.time.nothing_else t l v le left)); marks = s.time.marks }

-- the moments of a run
pub meanwhile : {P : List ℕ → List ℕ → Type 0} {a b : State} → Leaves P a b → LeavesMeanwhile P a b
meanwhile s = record { later = s.later; each = s.each }

-- a mark takes no time
pub marked : {f : Bool} {P : List ℕ → List ℕ → Type 0} {a b c : State} → LeavesMeanwhile P a b → Marks f b c → LeavesMeanwhile P a c
marked {a = a} {b = b} {c = c} s m = record {
  later = (let x = s.later in let y = m.moment in omega (arith, x, y));
  each = λ t l v le left. s.each t l v le (m.nothing_else t l v left);
}

-- behind a run comes another
pub followed-meanwhile : {P : List ℕ → List ℕ → Type 0} {a b c : State} → LeavesMeanwhile P a b → LeavesMeanwhile P b c → LeavesMeanwhile P a c
followed-meanwhile {a = a} {b = b} {c = c} so_far more = record {
  later = (let x = so_far.later in let y = more.later in omega arith);
  each = λ t l v le left. (let x = so_far.later in
      ⊎_elim (λ past. so_far.each t l v le past) (λ p. inr p) (more.each t l v (omega arith) left));
}
