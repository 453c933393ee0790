-- The entries of a block in front of a place.
use Rattle.std.proofs.Common.{◌≡◌, ◌≢◌, ◌⊎◌, inl, inr, ℕ, zero, suc, ◌+◌, ◌-◌, ◌<◌, Bool, true, false, cond, List, [], ◌∷◌, ◌++◌, length, take, Some, refl, sym, ap, ◌∙◌, arith}
use Rattle.std.specs.Prelude.{slice_get, min}
use Rattle.hd_volume.specs.Entries.{Entry}
use Rattle.hd_volume.specs.Indexes.{key_less}
use Rattle.hd_index_blocks.specs.Fields.{below_count}
use Rattle.hd_index_blocks.specs.Maps.{greatest_below, last_key}
use Rattle.hd_index_blocks.specs.Levels.{named, AreBelow}
use Rattle.hd_index_blocks.specs.Ways.{child_of}
use Rattle.hd_index_blocks.specs.Neighbours.{last_of}
use Rattle.hd_index.specs.Stands.{front_of}

-- they are as many as stand before the place that a key leads to
pub front-take : (key : List ℕ) (es : List Entry) (i : ℕ) → i ≡ min (below_count key es) (length es - 1) → front_of key es ≡ take i es
front-take key [] i e = (let z : i ≡ 0 = omega (arith, e) in rw z refl)
front-take key (a ∷ []) i e = by-test (key_less a.key key) e
  where
    by-test : (b : Bool) → i ≡ min (cond b 1 0) (1 - 1) → [] ≡ take i (a ∷ [])
    by-test true e = (let z : i ≡ 0 = omega (arith, e) in rw z refl)
    by-test false e = (let z : i ≡ 0 = omega (arith, e) in rw z refl)
front-take key (a ∷ f ∷ es) i e = by-test (key_less a.key key) e (λ j h. front-take key (f ∷ es) j h)
  where
    by-test : (b : Bool) → i ≡ min (cond b (suc (below_count key (f ∷ es))) 0) (suc (suc (length es)) - 1)
        → ((j : ℕ) → j ≡ min (below_count key (f ∷ es)) (suc (length es) - 1) → front_of key (f ∷ es) ≡ take j (f ∷ es)) → cond b (a ∷ front_of key (f ∷ es)) [] ≡ take i (a ∷ f ∷ es)
    by-test true e rest =
        let m : ℕ = min (below_count key (f ∷ es)) (suc (length es) - 1) in
        let z : i ≡ suc m = omega (arith, e) in
        ap (λ (t : List Entry). a ∷ t) (rest m refl) ∙ ap (λ (j : ℕ). take j (a ∷ f ∷ es)) (sym z)
    by-test false e rest = (let z : i ≡ 0 = omega (arith, e) in rw z refl)

-- the last of them, by what it names
pub names-taken : (other : ℕ) (es : List Entry) (j : ℕ) (x : Entry) → slice_get es j ≡ Some x → last_of other (named (take (suc j) es)) ≡ x.address
names-taken other [] j x h = cc
names-taken other (e ∷ es) zero x h = let one : e ≡ x = cc in ap (λ (t : Entry). t.address) one
names-taken other (e ∷ es) (suc j) x h = names-taken e.address es j x h

-- and by its key
pub key-taken : (other : List ℕ) (es : List Entry) (j : ℕ) (x : Entry) → slice_get es j ≡ Some x → last_key other (take (suc j) es) ≡ x.key
key-taken other [] j x h = cc
key-taken other (e ∷ es) zero x h = let one : e ≡ x = cc in ap (λ (t : Entry). t.key) one
key-taken other (e ∷ es) (suc j) x h = key-taken e.key es j x h

pub take-whole : (es : List Entry) (n : ℕ) → n ≡ length es → take n es ≡ es
take-whole [] n e = (let z : n ≡ 0 = e in rw z refl)
take-whole (a ∷ es) n e = ap (λ (j : ℕ). take j (a ∷ es)) e ∙ ap (λ (t : List Entry). a ∷ t) (take-whole es (length es) refl)

-- the greatest key below a key is that of the last entry before its place
pub greatest-taken : (other key : List ℕ) (es : List Entry) → greatest_below other key es ≡ last_key other (take (below_count key es) es)
greatest-taken other key [] = refl
greatest-taken other key (e ∷ es) = by-test (key_less e.key key) (greatest-taken e.key key es)
  where
    by-test : (b : Bool) → greatest_below e.key key es ≡ last_key e.key (take (below_count key es) es)
        → cond b (greatest_below e.key key es) other ≡ last_key other (take (cond b (suc (below_count key es)) 0) (e ∷ es))
    by-test true rest = rest
    by-test false rest = refl

-- The entries of a block, parted where a key leads.
pub record IsFront (key : List ℕ) (es : List Entry) : Type 0 where
  pub entry : Entry
  pub back : List Entry
  pub is : es ≡ front_of key es ++ (entry ∷ back)
  pub less : AreBelow key (front_of key es)
  pub here : (key_less entry.key key ≡ false) ⊎ (back ≡ [])
  pub child : entry.address ≡ child_of key es

pub fronted : (key : List ℕ) (es : List Entry) → es ≢ [] → IsFront key es
fronted key [] some = absurd (some refl)
fronted key (e ∷ []) some = record { entry = e; back = []; is = refl; less = tt; here = inr refl; child = refl }
fronted key (e ∷ f ∷ es) some = by-test (key_less e.key key) refl (fronted key (f ∷ es) (λ no. cc))
  where
    by-test : (b : Bool) → key_less e.key key ≡ b → IsFront key (f ∷ es) → IsFront key (e ∷ f ∷ es)
    by-test true is rest = record {
      entry = rest.entry;
      back = rest.back;
      is = rw is (ap (λ (x : List Entry). e ∷ x) rest.is);
      less = rw is (is, rest.less);
      here = rest.here;
      child = rest.child ∙ rw is refl;
    }
    by-test false is rest = record { entry = e; back = f ∷ es; is = rw is refl; less = rw is tt; here = inl is; child = rw is refl }

-- not all entries stand before the place that a key leads to
pub front-fewer : (key : List ℕ) (es : List Entry) → es ≢ [] → length (front_of key es) < length es
front-fewer key es some =
    let f = fronted key es some in
    let all : length es ≡ length (front_of key es) + suc (length f.back) = ap (λ (t : List Entry). length t) f.is ∙ length-append (front_of key es) (f.entry ∷ f.back) in
    omega arith
  where
    length-append : (xs ys : List Entry) → length (xs ++ ys) ≡ length xs + length ys
    length-append [] ys = omega arith
    length-append (x ∷ xs) ys = (let e = length-append xs ys in omega arith)
