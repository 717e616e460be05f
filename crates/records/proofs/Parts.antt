-- What a part of a record holds: its byte i is the record's at the part's beginning and i; a part within a part; a part made anew. What lies behind a part, and bytes made anew
-- outside it, leave what it holds, and outside the counter and the retention byte they leave a record as sound as it was.
-- Assumes nothing.
use mathlib.Core.Path.{◌≡◌, refl, sym, ap, ap₂, ◌∙◌}
use mathlib.Core.Bool.{◌&&◌}
use mathlib.Core.List.{List, ◌++◌}
use mathlib.Core.Logic.{inl, inr}
use Prim.Native.Nat.{ℕ, zero, suc, ◌+◌, ◌-◌, ◌≤◌, ◌<◌}
use native.Mathlib.Omega.{arith}
use lib.Dec.{leb, lit≤}
use lib.ListN.{length, length-drop, take, drop, get_or, set, get_or-append, get_or-eq_default, length-take}
use lib.Seq.{ext_get_or, get_or-take, get_or-drop, length-take-le, take-take, drop-drop, take-append-le, drop-append-le, take-set-le, drop-set-lt, drop-set-add}
use Rattle.laws.proofs.Lists.{drop-take}
use Rattle.records.specs.declared.record.Part.{Part}
use Rattle.records.specs.Record.{counter, unlocked, bytes_of, byte_of, Outside, anew, on_bytes, record_sound}
use Rattle.records.proofs.Anew.{length-anew, anew-below, anew_above, anew_inside}

pub byte_of-part : (p : Part) (r : List ℕ) {i : ℕ} → i < p.size → get_or (bytes_of p r) i 0 ≡ get_or r (p.at + i) 0
unfolding bytes_of
byte_of-part p r {i} h = get_or-take p.size (drop p.at r) i 0 h ∙ get_or-drop p.at r i 0

pub past_part : (p : Part) (r : List ℕ) {i : ℕ} → p.size ≤ i → get_or (bytes_of p r) i 0 ≡ 0
unfolding bytes_of
past_part p r {i} h = get_or-eq_default (take p.size (drop p.at r)) 0 (omega (arith, length-take p.size (drop p.at r)))

pub length_part : (p : Part) (r : List ℕ) → p.at + p.size ≤ length r → length (bytes_of p r) ≡ p.size
unfolding bytes_of
length_part p r h = length-take-le p.size (drop p.at r) (omega (arith, length-drop p.at r))

-- a part that lies within another is a part of what the other holds
pub part_of-part : (p q : Part) (r : List ℕ) → q.at ≤ p.at → p.at + p.size ≤ q.at + q.size
    → bytes_of p r ≡ take p.size (drop (p.at - q.at) (bytes_of q r))
unfolding bytes_of
part_of-part p q r h k =
    let d = p.at - q.at in
    let there : q.at + d ≡ p.at = omega arith in
    let room : d + (q.size - d) ≡ q.size = omega arith in
    sym
    (ap (λ (n : ℕ). take p.size (drop d (take n (drop q.at r)))) (sym room)
    ∙ ap (take p.size) (drop-take d (q.size - d) (drop q.at r))
    ∙ take-take p.size (q.size - d) (drop d (drop q.at r)) (omega arith)
    ∙ ap (take p.size) (drop-drop d q.at r ∙ ap (λ (n : ℕ). drop n r) there))

-- a part whose bytes were made anew, each as a list has it, holds the list
pub made_of : (p : Part) (xs r : List ℕ) → length xs ≡ p.size → p.at + p.size ≤ length r → bytes_of p (on_bytes p (λ i old. get_or xs i 0) r) ≡ xs
unfolding on_bytes
made_of p xs r l fits =
    let made = anew (λ i old. get_or xs i 0) p.at p.size r in
    let as_long : length (bytes_of p made) ≡ p.size = length_part p made (omega (arith, length-anew (λ i old. get_or xs i 0) p.at p.size r)) in
    ext_get_or 0 (bytes_of p made) xs (as_long ∙ sym l)
    (λ i h. byte_of-part p made (omega (arith, as_long)) ∙ anew_inside (λ i old. get_or xs i 0) p.at p.size r i (omega (arith, as_long)) fits)

-- ---- a record that goes on behind a part

module _ (p : Part) (front rest : List ℕ) where
  pub bytes_front : p.at + p.size ≤ length front → bytes_of p (front ++ rest) ≡ bytes_of p front
  unfolding bytes_of
  bytes_front h =
      ap (take p.size) (drop-append-le p.at front rest (omega arith))
      ∙ take-append-le p.size (drop p.at front) rest (omega (arith, length-drop p.at front))

  pub byte_front : p.at < length front → byte_of p (front ++ rest) ≡ byte_of p front
  unfolding byte_of
  byte_front h = get_or-append front rest 0 p.at h

-- ---- bytes made anew outside a part

before-set : (p : Part) (r : List ℕ) (i v : ℕ) → p.at + p.size ≤ i → bytes_of p (set r i v) ≡ bytes_of p r
unfolding bytes_of
before-set p r i v h =
    let place : p.at + (i - p.at) ≡ i = omega arith in
    ap (λ (k : ℕ). take p.size (drop p.at (set r k v))) (sym place)
    ∙ ap (take p.size) (drop-set-add p.at r (i - p.at) v)
    ∙ take-set-le p.size (drop p.at r) (i - p.at) v (omega arith)

after-set : (p : Part) (r : List ℕ) (i v : ℕ) → i < p.at → bytes_of p (set r i v) ≡ bytes_of p r
unfolding bytes_of
after-set p r i v h = ap (take p.size) (drop-set-lt p.at r i v h)

module _ (p : Part) (f : ℕ → ℕ → ℕ) (at : ℕ) where
  pub before-anew : (n : ℕ) (r : List ℕ) → p.at + p.size ≤ at → bytes_of p (anew f at n r) ≡ bytes_of p r
  unfolding anew
  before-anew zero r h = refl
  before-anew (suc n) r h = before-set p (anew f at n r) (at + n) (f n (get_or r (at + n) 0)) (omega arith) ∙ before-anew n r h

  pub after-anew : (n : ℕ) (r : List ℕ) → at + n ≤ p.at → bytes_of p (anew f at n r) ≡ bytes_of p r
  unfolding anew
  after-anew zero r h = refl
  after-anew (suc n) r h = after-set p (anew f at n r) (at + n) (f n (get_or r (at + n) 0)) (omega arith) ∙ after-anew n r (omega arith)

module _ (p : Part) (f : ℕ → ℕ → ℕ) (at n : ℕ) (r : List ℕ) where
  pub outside_anew : Outside p at n → bytes_of p (anew f at n r) ≡ bytes_of p r
  outside_anew (inl h) = after-anew p f at n r h
  outside_anew (inr h) = before-anew p f at n r h

  -- of a part that has a byte, the first
  pub outside_byte : 1 ≤ p.size → Outside p at n → byte_of p (anew f at n r) ≡ byte_of p r
  unfolding byte_of
  outside_byte some (inl h) = anew_above f at n r {j = p.at} h
  outside_byte some (inr h) = anew-below f at n r {j = p.at} (omega arith)

pub sound_elsewhere : (f : ℕ → ℕ → ℕ) (at n : ℕ) (r : List ℕ) → Outside counter at n → Outside unlocked at n
    → record_sound (anew f at n r) ≡ record_sound r
unfolding record_sound
sound_elsewhere f at n r h k =
    ap₂ (λ (x y : ℕ). leb x 63 && leb y 1) (outside_byte counter f at n r (lit≤ tt) h) (outside_byte unlocked f at n r (lit≤ tt) k)
