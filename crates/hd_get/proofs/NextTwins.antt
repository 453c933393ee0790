-- The next twin, where a get without arguments goes.
use Rattle.std.proofs.Common.{◌≡◌, ℕ, ◌<◌, ◌≤◌, List, [], ◌∷◌, ◌++◌, zero, suc, take, length, Bool, true, false, cond, Option, None, Some, refl, sym, ap, subst, ◌∙◌, inl, inr, arith}
use Rattle.std.specs.Prelude.{◌==◌, ◌||◌, IfNone, IfSome, is_some, nat_lt, option_map, slice_get, unwrap_or}
use Rattle.std.specs.List.{list_any}
use Rattle.std.proofs.lemmas.Bool.{cases_lt, cond-true, cond-false, lt-ltb, le-ltb, eq-eqb, false≢true}
use Rattle.hd_dbd.specs.Hierarchy.{Database}
use Rattle.hd_dbd.specs.Positions.{Position}
use Rattle.hd_dbd.specs.Paths.{row_at}
use Rattle.hd_dbd.specs.Forest.{Forest}
use Rattle.hd_volume.specs.Volumes.{VolumeState}
use Rattle.hd_links.specs.Placed.{Placed}
use Rattle.hd_links.specs.Steps.{rows_of, path_at}
use Rattle.hd_image.specs.Records.{links_of, IsVolumeOf}
use Rattle.hd_forest.specs.Rows.{IsOnRow}
use Rattle.hd_forest.specs.Walks.{tip}
use Rattle.hd_position.specs.Kept.{row_on}
use Rattle.hd_calls.specs.Gets.{search_end}
use Rattle.hd_calls.specs.Ssas.{Ssa}
use Rattle.hd_calls.specs.Satisfies.{satisfies}
use Rattle.hd_get.specs.declared.verdict.Verdict.TheVariants.{Found}
use Rattle.hd_get.specs.Asking.{verdict_plain}
use Rattle.hd_get.specs.Gets.{GetCall}
use Rattle.hd_get.specs.Found.{satisfies_get, sought_by, LeadsToSought}
use Rattle.hd_get.proofs.Grounds.{grounds, held_rows, tip_code}
use Rattle.hd_get.proofs.Turns.{ends_within, here_from}
use Rattle.hd_get.proofs.Unread.{judged_plain}

-- what holds of something holds of it in another form
pub some_map : {A : Type 0} {P Q : A → Type 0} (o : Option A) → ((x : A) → P x → Q x) → IfSome o P → IfSome o Q
some_map None f p = tt
some_map (Some x) f p = f x p

pub some_told : {A : Type 0} (P : A → Type 0) (o : Option A) (x : A) → o ≡ Some x → IfSome o P → P x
some_told P o x is p = subst (λ (o : Option _). IfSome o P) is p

pub none_told : {A P : Type 0} (o : Option A) → o ≡ None → IfNone o P → P
none_told {P = P} o is p = subst (λ (o : Option _). IfNone o P) is p

-- arguments of which there are none
pub none_are : (ssas : List Ssa) → length ssas ≡ 0 → [] ≡ ssas
none_are [] e = refl
none_are (a ∷ ssas) e = absurd (omega arith)

-- a list that is not said to be empty has an element
pub some_are : (n : ℕ) (b : Bool) → b ≡ (n == 0) → b ≡ false → 0 < n
some_are n b is no_ = elim (cases_lt 0 n) [
  | inl w ↦ w
  | inr w ↦ absurd (false≢true (sym no_ ∙ is ∙ eq-eqb n 0 (let z : n ≡ 0 = omega arith in z)))
]

-- what is there is some
pub there_is : (o : Option ℕ) → is_some o ≡ true → o ≡ Some (unwrap_or o 0)
there_is None e = cc
there_is (Some x) e = refl

or_true : (b : Bool) → (b || true) ≡ true
or_true true = refl
or_true false = refl

-- what stands on a path above a cut stands before the row that comes there
kept_before : (path : List ℕ) (l n a x : ℕ) → slice_get path l ≡ Some a → l < n → list_any (λ b. b == a) (take n path ++ x ∷ []) ≡ true
kept_before [] l n a x e w = cc
kept_before (y ∷ path) l zero a x e w = absurd (omega arith)
kept_before (y ∷ path) zero (suc n) a x e w = ap (λ (b : Bool). b || list_any (λ b. b == a) (take n path ++ x ∷ [])) (eq-eqb y a (let same : y ≡ a = cc in same))
kept_before (y ∷ path) (suc l) (suc n) a x e w =
    ap (λ (b : Bool). (y == a) || b) (kept_before path l n a x e (let w' : l < n = omega (arith, w) in w')) ∙ or_true (y == a)

-- a path that goes on below a level has what stood at that level
pub stays_below : (path : List ℕ) (level n a x : ℕ) → row_on path level ≡ Some a → level ≤ n → cond (a == 0 || list_any (λ b. b == a) (take n path ++ x ∷ [])) (take n path ++ x ∷ []) [] ≡ take n path ++ x ∷ []
stays_below path zero n a x e w = cc
stays_below path (suc l) n a x e w =
    ap (λ (b : Bool). cond (a == 0 || b) (take n path ++ x ∷ []) []) (kept_before path l n a x e (let w' : l < n = omega (arith, w) in w'))
    ∙ ap (λ (b : Bool). cond b (take n path ++ x ∷ []) []) (or_true (a == 0))

-- a get begins where a path leads to a row
module _ (d : Database) (v : VolumeState) (f : Forest Placed) (c : GetCall) (q : Position) (parent : ℕ) (path : List ℕ) (L : LeadsToSought d v f c q parent path) (some : 0 < length path) where
  -- the row stands before the end of the search
  leads_there : (L.number < search_end d.types (rows_of f) q c.kind) × (path ≡ path_at d.types f L.number)
  leads_there = elim (cases_lt L.number (search_end d.types (rows_of f) q c.kind)) [
    | inl w ↦ (w, L.leads.is ∙ cond-true (nat_lt L.number (search_end d.types (rows_of f) q c.kind)) (path_at d.types f L.number) [] (lt-ltb L.number (search_end d.types (rows_of f) q c.kind) w))
    | inr w ↦ absurd (
        let e : length path ≡ 0 = ap (λ (xs : List ℕ). length xs)
        (L.leads.is ∙ cond-false (nat_lt L.number (search_end d.types (rows_of f) q c.kind)) (path_at d.types f L.number) [] (le-ltb L.number (search_end d.types (rows_of f) q c.kind) w)) in omega arith)
  ]

  on_row : IsOnRow d.types (links_of d.types v) f path L.number
  on_row = record {
    holds = L.leads.holds;
    within = (let e : search_end d.types (rows_of f) q c.kind ≤ length (rows_of f) = ends_within d.types f parent L.number (search_end d.types (rows_of f) q c.kind) L.leads.ends in
        let w : L.number < search_end d.types (rows_of f) q c.kind = leads_there.0 in omega arith);
    is = leads_there.1;
  }

  -- where the PCB may read its type, and there are no arguments, it is the row that is sought
  pub sought_there : IsVolumeOf d v → c.ssas ≡ [] → (code : ℕ) → code ≡ (links_of d.types v).code (tip path) → verdict_plain (record { types = d.types; pcb = c.pcb }) code ≡ Found
      → Some path ≡ option_map (λ i. path_at d.types f i) (sought_by c d.types (rows_of f) q)
  sought_there of bare code is found =
      let own : code ≡ (row_at (rows_of f) L.number).code = is ∙ tip_code d.types (links_of d.types v) f (grounds d v f of L.leads.holds) path L.number on_row in
      let passes : satisfies (record { types = d.types; pcb = c.pcb }) (rows_of f) [] L.number ≡ true
      = (judged_plain d.types f c.pcb (held_rows d v f of L.leads.holds) L.number on_row.within).found (sym (ap (λ (k : ℕ). verdict_plain (record { types = d.types; pcb = c.pcb }) k) own) ∙ found) in
      let own_passes : satisfies_get c d.types (rows_of f) L.number ≡ true = ap (λ ssas. satisfies (record { types = d.types; pcb = c.pcb }) (rows_of f) ssas L.number) bare ∙ passes in
      ap Some leads_there.1
      ∙ sym (ap (option_map (λ i. path_at d.types f i))
      (L.same ∙ here_from (satisfies_get c d.types (rows_of f)) L.number L.number (search_end d.types (rows_of f) q c.kind) (let r : L.number ≤ L.number = omega arith in r) leads_there.0
      (λ j low high. absurd (omega arith)) own_passes))
