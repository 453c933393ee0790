-- The key of a stored segment at the place of its type's keys.
use Rattle.std.proofs.Common.{◌≡◌, ℕ, ◌+◌, ◌-◌, ◌<◌, ◌≤◌, List, [], take, drop, cond, Option, Some, None, IsTrue, ap, sym, ◌∙◌, refl, subst, arith}
use Rattle.std.specs.Prelude.{is_some, option_and_then}
use Rattle.std.specs.Option.{option_map_or}
use Rattle.std.proofs.lemmas.List.{drop-drop, drop-take, take-take}
use Rattle.hd_bytes.specs.Ranges.{bytes_at}
use Rattle.hd_dbd.specs.declared.hierarchy.FreeSpace.{FreeSpace}
use Rattle.hd_dbd.specs.declared.hierarchy.Key.{Key}
use Rattle.hd_dbd.specs.Types.{SegmentType}
use Rattle.hd_dbd.specs.Hierarchy.{type_of, part_of}
use Rattle.hd_dbd.specs.Lengths.{least_length, said_length, own_length}
use Rattle.hd_dbd.specs.Prefixes.{prefix_length}
use Rattle.hd_dbd.specs.Rows.{key_of}
use Rattle.hd_dbd.specs.DatabaseRules.{well_formed}
use Rattle.hd_dbd.proofs.TypeLengths.{type-lengths}
use Rattle.hd_prefix.specs.Fields.{bytes_of, length_of}
use Rattle.hd_check_blocks.specs.declared.keys.KeyPlace.{KeyPlace}
use Rattle.hd_check_blocks.specs.Keys.{key_behind, key_place}

-- some of the bytes that stand at a place
range-in : (s : List ℕ) (place len start n : ℕ) → start + n ≤ len → bytes_at (bytes_at s place len) start n ≡ bytes_at s (place + start) n
range-in s place len start n within =
    let e : len ≡ start + (len - start) = omega arith in
    ap (λ (l : ℕ). take n (drop start (take l (drop place s)))) e
    ∙ ap (λ (xs : List ℕ). take n xs) (drop-take start (len - start) (drop place s))
    ∙ take-take n (len - start) (drop start (drop place s)) (omega arith)
    ∙ ap (λ (xs : List ℕ). take n xs) (drop-drop start place s)

module _ (size : ℕ) (frspc : FreeSpace) (types : List SegmentType) (fit : IsTrue (well_formed size frspc types)) (c : ℕ) (segment : List ℕ) where
  -- the key of a segment whose type says how long it is
  fixed-key : (t : SegmentType) (o : Option Key) → type_of types c ≡ Some t → t.least ≡ None → t.key ≡ o
      → (p : KeyPlace) → p ≡ option_map_or (λ k. record { start = prefix_length types c + (k.start - 1); length = k.length }) o (record { start = prefix_length types c; length = 0 })
      → bytes_at segment p.start p.length ≡ option_map_or (λ k. part_of (bytes_of types c segment) k.start k.length) o []
  fixed-key t None is fixed has p place = ap (λ (q : KeyPlace). bytes_at segment q.start q.length) place
  fixed-key t (Some k) is fixed has p place =
      let long : length_of types c segment ≡ t.length =
      ap (λ (o : Option SegmentType). option_map_or (λ t. own_length t (drop (prefix_length types c) segment)) o 0) is
      ∙ ap (λ (o : Option ℕ). option_map_or (λ _. said_length (drop (prefix_length types c) segment)) o t.length) fixed in
      let least : least_length t ≡ t.length = ap (λ (o : Option ℕ). option_map_or (λ l. l) o t.length) fixed in
      let key = (type-lengths size frspc types c t fit is).key k has in
      ap (λ (q : KeyPlace). bytes_at segment q.start q.length) place
      ∙ sym (range-in segment (prefix_length types c) (length_of types c segment) (k.start - 1) k.length (inside k.start k.length _ _ _ key.1 key.2 least long))
    where
      inside : (start n least len own : ℕ) → 0 < start → start + n ≤ least + 1 → least ≡ len → own ≡ len → (start - 1) + n ≤ own
      inside start n least len own low high e f = omega arith

  key-by : (o : Option SegmentType) (p : KeyPlace) → type_of types c ≡ o
      → Some p ≡ option_and_then (λ t. cond (is_some t.least) None (Some (key_behind (prefix_length types c) t))) o
      → bytes_at segment p.start p.length ≡ key_of types (record { code = c; bytes = bytes_of types c segment })
  key-by None p is place = cc
  key-by (Some t) p is place = by-least t.least refl place
    where
      by-least : (o : Option ℕ) → t.least ≡ o → Some p ≡ cond (is_some o) None (Some (key_behind (prefix_length types c) t))
          → bytes_at segment p.start p.length ≡ key_of types (record { code = c; bytes = bytes_of types c segment })
      by-least (Some least) varies place = cc
      by-least None fixed place =
          let at : p ≡ key_behind (prefix_length types c) t = cc in
          fixed-key t t.key is fixed refl p at
          ∙ sym (ap (λ (o : Option SegmentType). option_map_or (λ t. option_map_or (λ k. part_of (bytes_of types c segment) k.start k.length) t.key []) o []) is)

  -- what stands at the place of a type's keys is the key
  pub placed-key : (p : KeyPlace) → Some p ≡ key_place types c → bytes_at segment p.start p.length ≡ key_of types (record { code = c; bytes = bytes_of types c segment })
  placed-key p place = key-by (type_of types c) p refl place
