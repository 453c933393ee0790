-- What is found in a list of entries whose keys ascend.
use Rattle.std.proofs.Common.{◌≡◌, ℕ, List, [], ◌∷◌, true, false, Some, None, refl, sym, ap, ◌∙◌, inl, inr}
use Rattle.std.specs.Prelude.{bytes_eq}
use Rattle.std.proofs.lemmas.Bool.{and_parts, cases_Bool, cond-true, cond-false, false≢true}
use Rattle.hd_volume.specs.Entries.{Entry}
use Rattle.hd_volume.specs.Indexes.{key_less, keys_ascend}
use Rattle.hd_volume.proofs.KeyLemmas.{less-not}
use Rattle.hd_image.proofs.Sorted.{IsIn, first-less}
use Rattle.hd_index.specs.Maps.{address_of, address_from}

-- the entry that has the key
pub record HasKey (key : List ℕ) (es : List Entry) (a : ℕ) : Type 0 where
  pub entry : Entry
  pub is_in : IsIn entry es
  pub address : entry.address ≡ a
  pub key_is : bytes_eq entry.key key ≡ true

pub key-found : (key : List ℕ) (es : List Entry) (a : ℕ) → address_of key es ≡ Some a → HasKey key es a
key-found key [] a is = cc
key-found key (e ∷ es) a is = elim (cases_Bool (bytes_eq e.key key)) [
  | inl q ↦ record {
    entry = e;
    is_in = inl refl;
    address = (let found : Some e.address ≡ Some a = sym (cond-true (bytes_eq e.key key) (Some e.address) (address_of key es) q) ∙ is in cc);
    key_is = q;
  }
  | inr q ↦
      (let I : HasKey key es a = key-found key es a (sym (cond-false (bytes_eq e.key key) (Some e.address) (address_of key es) q) ∙ is) in
      record { entry = I.entry; is_in = inr I.is_in; address = I.address; key_is = I.key_is })
]

-- none has it
pub key-missing : (key : List ℕ) (es : List Entry) → address_of key es ≡ None → (e : Entry) → IsIn e es → bytes_eq e.key key ≡ false
key-missing key [] is e i = absurd i
key-missing key (x ∷ es) is e i = elim (cases_Bool (bytes_eq x.key key)) [
  | inl q ↦ absurd (let found : Some x.address ≡ None = sym (cond-true (bytes_eq x.key key) (Some x.address) (address_of key es) q) ∙ is in cc)
  | inr q ↦ elim i [
    | inl same ↦ ap (λ (z : Entry). bytes_eq z.key key) same ∙ q
    | inr later ↦ key-missing key es (sym (cond-false (bytes_eq x.key key) (Some x.address) (address_of key es) q) ∙ is) e later
  ]
]

-- the least entry that is not below the key
pub record IsLeast (key : List ℕ) (es : List Entry) (a : ℕ) : Type 0 where
  pub entry : Entry
  pub is_in : IsIn entry es
  pub address : entry.address ≡ a
  pub not_below : key_less entry.key key ≡ false
  pub lesser : (x : Entry) → IsIn x es → key_less x.key entry.key ≡ true → key_less x.key key ≡ true

pub least-found : (key : List ℕ) (es : List Entry) (a : ℕ) → keys_ascend es ≡ true → address_from key es ≡ Some a → IsLeast key es a
least-found key [] a up is = cc
least-found key (e ∷ es) a up is = elim (cases_Bool (key_less e.key key)) [
  | inl q ↦
      (let I : IsLeast key es a = least-found key es a (and_parts _ _ up).1 (sym (cond-true (key_less e.key key) (address_from key es) (Some e.address) q) ∙ is) in
      record {
        entry = I.entry;
        is_in = inr I.is_in;
        address = I.address;
        not_below = I.not_below;
        lesser = λ x i less. elim i [ inl same ↦ ap (λ (z : Entry). key_less z.key key) same ∙ q | inr later ↦ I.lesser x later less ];
      })
  | inr q ↦ record {
    entry = e;
    is_in = inl refl;
    address = (let found : Some e.address ≡ Some a = sym (cond-false (key_less e.key key) (address_from key es) (Some e.address) q) ∙ is in cc);
    not_below = q;
    lesser = λ x i less. absurd (elim i [
      | inl same ↦ (let own : key_less e.key e.key ≡ true = ap (λ (z : Entry). key_less z.key e.key) (sym same) ∙ less in false≢true (sym (less-not e.key e.key own) ∙ own))
      | inr later ↦ false≢true (sym (less-not e.key x.key (first-less e es x up later)) ∙ less)
    ]);
  }
]

-- all are below it
pub all-lesser : (key : List ℕ) (es : List Entry) → address_from key es ≡ None → (e : Entry) → IsIn e es → key_less e.key key ≡ true
all-lesser key [] is e i = absurd i
all-lesser key (x ∷ es) is e i = elim (cases_Bool (key_less x.key key)) [
  | inl q ↦ elim i [
    | inl same ↦ ap (λ (z : Entry). key_less z.key key) same ∙ q
    | inr later ↦ all-lesser key es (sym (cond-true (key_less x.key key) (address_from key es) (Some x.address) q) ∙ is) e later
  ]
  | inr q ↦ absurd (let found : Some x.address ≡ None = sym (cond-false (key_less x.key key) (address_from key es) (Some x.address) q) ∙ is in cc)
]
