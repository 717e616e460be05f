-- The windows that lie in a state's register: how many they are, what a byte that moves the register on makes of them, which byte
-- leaves, where each window's bytes lie, and what they are after a whole write. By the order on the wire: full windows, laid end to
-- end, are one shift register.
-- Assumes nothing.
use mathlib.Core.Path.{◌≡◌, refl, sym, ap, ap₂, ◌∙◌}
use mathlib.Core.Bool.{Bool, true, false, cond}
use mathlib.Core.List.{List, [], ◌∷◌, ◌++◌}
use Prim.Native.Nat.{ℕ, zero, suc, ◌+◌, ◌-◌, ◌*◌, ◌≤◌, ◌<◌, min}
use native.Mathlib.Decide.{dec_lt}
use native.Mathlib.Nat.{mul_comm, mul-suc, mul-le-mul}
use native.Mathlib.Omega.{arith}
use lib.Dec.{leb}
use lib.ListN.{length, get_or, take, drop, length-drop}
use lib.Seq.{length-take-le, take-take, drop-drop}
use borrow.Author.Tests.{leb-true, lt-ltb, le-ltb}
use Rattle.laws.specs.Rows.{rows, row_at}
use Rattle.laws.proofs.Lists.{drop-take}
use Rattle.laws.proofs.Rows.{Every, row_fits}
use Rattle.wire.specs.Order.{write_data, write_payloads, reply_data, reply_parts}
use Rattle.wire.specs.Windows.{empty, enter, leaves, oldest_or, draw, held}
use Rattle.wire.proofs.Order.{length-write_payloads, every_write_payloads, write_round, write_back, write_at, length-reply_parts, every_reply_parts, reply_round, reply_back, reply-at}
use Rattle.wire.proofs.Windows.{length-enter, every_enter, length-empty, enter-register, length-draw, every_draw, draw-register, length-held, held_all, held_none, held-enter, held_at}
use Rattle.records.specs.Commands.{most_monitors, payload_size}
use Rattle.clock_state.specs.declared.state.Kind.{Kind}
use Rattle.clock_state.specs.declared.state.Kind.TheVariants.{Fills, Drains, Still}
use Rattle.clocking.specs.Clock.{most_seen, one_more, far}
use Rattle.clock_state.specs.State.{chained_at, windows_at, state_size, chained_in, register_in}
use Rattle.clock_state.proofs.Widths.{Wide, wide_reply}
use Rattle.clocking.specs.Bytes.{windows_in}

-- ---- how many, and how long

-- no more monitors than a chain has, whatever the bytes are
pub chained-few : (s : List ℕ) → chained_in s ≤ most_monitors
unfolding chained_in
chained-few s = go (leb (get_or s chained_at 0) most_monitors) refl
  where
    go : (b : Bool) → leb (get_or s chained_at 0) most_monitors ≡ b → cond b (get_or s chained_at 0) 0 ≤ most_monitors
    go true e = leb-true _ _ e
    go false e = omega arith

-- their windows' bytes fit a state
pub register-fits : {w n : ℕ} → Wide w → n ≤ most_monitors → w * n ≤ payload_size * most_monitors
register-fits wide few = mul-le-mul wide.most few

-- which has the register of as many
pub length-register : (w n : ℕ) (s : List ℕ) → Wide w → n ≤ most_monitors → length s ≡ state_size → length (register_in w n s) ≡ n * w
unfolding register_in
length-register w n s wide few sized =
    let room : w * n ≤ length (drop windows_at s) = rw length-drop (omega (arith, register-fits wide few)) in
    length-take-le (w * n) (drop windows_at s) room ∙ mul_comm w n

-- a window for each monitor
pub length-windows : (kind : Kind) (seen n : ℕ) (register : List ℕ) → length (windows_in kind seen n register) ≡ n
unfolding windows_in
length-windows (Fills w) seen n register = length-held w (seen - 4) (write_payloads w n register) ∙ length-write_payloads w n register
length-windows Drains seen n register = length-reply_parts payload_size n register
length-windows Still seen n register = length-empty ℕ n

-- ---- the count of bytes

-- below the most it goes up
pub counts_on : (seen : ℕ) → seen < most_seen → one_more seen ≡ seen + 1
unfolding one_more
counts_on seen h = ap (λ (b : Bool). cond b (seen + 1) seen) (lt-ltb _ _ h)

-- there it stays
pub counts_no_more : (seen : ℕ) → most_seen ≤ seen → one_more seen ≡ seen
unfolding one_more
counts_no_more seen h = ap (λ (b : Bool). cond b (seen + 1) seen) (le-ltb _ _ h)

-- ---- one byte more

-- up to byte four the windows do not depend on the count
pub windows-early : (kind : Kind) (seen seen' n : ℕ) (register : List ℕ) → seen ≤ 4 → seen' ≤ 4 → windows_in kind seen n register ≡ windows_in kind seen' n register
unfolding windows_in
windows-early (Fills w) seen seen' n register h h' = ap (λ (m : ℕ). held w m (write_payloads w n register)) none
  where
    none : seen - 4 ≡ seen' - 4
    none = omega arith
windows-early Drains seen seen' n register h h' = refl
windows-early Still seen seen' n register h h' = refl

module _ (w n : ℕ) (register : List ℕ) (wide : Wide w) (whole : length register ≡ n * w) where
  -- the windows' places in a write, nearest monitor first
  abbrev places : List (List ℕ)
  places = write_payloads w n register

  -- each place has a window's bytes
  every_place : Every w places
  every_place = every_write_payloads w n register (omega arith)

  -- a place for each monitor
  length-places : length places ≡ n
  length-places = length-write_payloads w n register

  -- before the first byte of a write the windows are empty
  pub windows-none : windows_in (Fills w) 4 n register ≡ empty n
  unfolding windows_in
  windows-none = held_none w places every_place ∙ ap empty length-places

  -- after a whole write each is its monitor's payload
  pub windows-whole : (seen : ℕ) → seen ≡ 4 + w * n → windows_in (Fills w) seen n register ≡ write_payloads w n register
  unfolding windows_in
  windows-whole seen e = held_all w (seen - 4) places every_place (rw length-places (omega (arith, mul_comm w n)))

  -- the windows after the byte, if all were full
  abbrev entered : ℕ → List (List ℕ)
  entered byte = enter w byte places

  -- the register moved on by a byte: full windows of a write pass their oldest on
  write_moved : (byte : ℕ) → write_payloads w n (drop 1 (register ++ byte ∷ [])) ≡ entered byte
  unfolding write_data
  write_moved byte =
      ap₂ (write_payloads w) (sym (length-enter w byte places ∙ length-places))
      (ap (λ (l : List ℕ). drop 1 (l ++ byte ∷ [])) (sym (write_back w n register whole))
      ∙ sym (enter-register w byte places wide.some every_place))
      ∙ write_round w (entered byte) (every_enter w byte places wide.some every_place)

  -- windows of a write take the byte in, whether they are full or not
  pub fills_moved : (byte seen : ℕ) → n ≤ most_monitors → 4 ≤ seen
      → windows_in (Fills w) (one_more seen) n (drop 1 (register ++ byte ∷ [])) ≡ enter w byte (windows_in (Fills w) seen n register)
  unfolding windows_in
  fills_moved byte seen few h = ap (held w (one_more seen - 4)) (write_moved byte) ∙ by (dec_lt seen most_seen)
    where
      by : Dec (seen < most_seen) → held w (one_more seen - 4) (entered byte) ≡ enter w byte (held w (seen - 4) places)
      by (yes l) =
          let more : one_more seen - 4 ≡ suc (seen - 4) = omega (arith, counts_on seen l) in
          ap (λ (m : ℕ). held w m (entered byte)) more ∙ sym (held-enter w (seen - 4) byte places wide.some every_place)
      by (no l) =
          let fits : n * w ≤ seen - 4 = omega (arith, register-fits wide few, mul_comm w n) in
          let same : one_more seen ≡ seen = counts_no_more seen (omega arith) in
          held_all w (one_more seen - 4) (entered byte) (every_enter w byte places wide.some every_place) (rw (length-enter, length-places) (omega arith))
          ∙ ap (enter w byte) (sym (held_all w (seen - 4) places every_place (rw length-places (omega arith))))

module _ (n : ℕ) (register : List ℕ) (whole : length register ≡ n * payload_size) where
  -- windows of a read draw from the next
  pub drains_moved : (seen seen' : ℕ) → windows_in Drains seen' n (drop 1 (register ++ far ∷ [])) ≡ draw far (windows_in Drains seen n register)
  unfolding windows_in reply_data
  drains_moved seen seen' =
      let parts : List (List ℕ) = reply_parts payload_size n register in
      let each : Every payload_size parts = every_reply_parts payload_size n register (omega arith) in
      ap₂ (reply_parts payload_size) (sym (length-draw far parts ∙ length-reply_parts payload_size n register))
      (ap (λ (l : List ℕ). drop 1 (l ++ far ∷ [])) (sym (reply_back payload_size n register whole))
      ∙ sym (draw-register payload_size far parts wide_reply.some each))
      ∙ reply_round payload_size (draw far parts) (every_draw payload_size far parts wide_reply.some each)

-- ---- the byte that leaves

-- a part's oldest byte is its first
oldest_first : (xs : List ℕ) → oldest_or far (take payload_size xs) ≡ get_or xs 0 far
unfolding oldest_or
oldest_first [] = refl
oldest_first (x ∷ xs) = refl

-- it is the register's first, and FF where no monitor is
pub leaves-first : (seen n : ℕ) (s : List ℕ) → leaves far (windows_in Drains seen n (register_in payload_size n s)) ≡ get_or (register_in payload_size n s) 0 far
unfolding windows_in reply_parts rows leaves register_in
leaves-first seen zero s = refl
leaves-first seen (suc n) s = oldest_first (register_in payload_size (suc n) s)

-- ---- where a window's bytes lie

-- a row of the register, in the state
row_in : (w n k : ℕ) (s : List ℕ) → k < n → row_at w k (register_in w n s) ≡ take w (drop (windows_at + w * k) s)
unfolding row_at register_in
row_in w n k s h =
    let within : k * w + w ≤ w * n = row_fits w h (omega (arith, mul_comm w n)) in
    let behind : ℕ = w * n - k * w in
    let cut : w * n ≡ k * w + behind = omega arith in
    let place : windows_at + k * w ≡ windows_at + w * k = omega (arith, mul_comm w k) in
    ap (λ (m : ℕ). take w (drop (k * w) (take m (drop windows_at s)))) cut
    ∙ ap (take w) (drop-take (k * w) behind (drop windows_at s))
    ∙ take-take w behind (drop (k * w) (drop windows_at s)) (omega arith)
    ∙ ap (take w) (drop-drop (k * w) windows_at s ∙ ap (λ (m : ℕ). drop m s) place)

-- how many bytes of a write have come to the window of w bytes at k, counted from 0
abbrev pub come : ℕ → ℕ → ℕ → ℕ
come w seen k = min w (seen - 4 - k * w)

-- one place more
pub next_place : (w : ℕ) {n k : ℕ} → k < n → w * (n - k) ≡ w * (n - suc k) + w
next_place w {n} {k} h =
    let one : n - k ≡ suc (n - suc k) = omega arith in
    ap (λ (m : ℕ). w * m) one ∙ mul-suc w (n - suc k)

-- where x bytes came, or a whole window's: the oldest of them
oldest_at : (w n k x : ℕ) → k < n → windows_at + w * (n - suc k) + (w - x) ≡ windows_at + w * (n - k) - min w x
oldest_at w n k x h = omega (arith, next_place w h)

-- in a write they lie at the end of its place, and the farthest monitor's place is the first
pub fills_at : (w seen n k : ℕ) (s : List ℕ) → k < n
    → get_or (windows_in (Fills w) seen n (register_in w n s)) k [] ≡ take (come w seen k) (drop (windows_at + w * (n - k) - come w seen k) s)
unfolding windows_in
fills_at w seen n k s h =
    let register : List ℕ = register_in w n s in
    let free : ℕ = w - (seen - 4 - k * w) in
    let start : ℕ = windows_at + w * (n - suc k) in
    let within : k < length (write_payloads w n register) = rw length-write_payloads h in
    let split : w ≡ free + come w seen k = omega arith in
    held_at w (seen - 4) (write_payloads w n register) k within
    ∙ ap (drop free) (write_at w n register k [] h ∙ row_in w n (n - suc k) s (omega arith))
    ∙ ap (λ (m : ℕ). drop free (take m (drop start s))) split
    ∙ drop-take free (come w seen k) (drop start s)
    ∙ ap (take (come w seen k)) (drop-drop free start s ∙ ap (λ (m : ℕ). drop m s) (oldest_at w n k (seen - 4 - k * w) h))

-- in a read the nearest monitor's place is the first
pub drains_at : (seen n k : ℕ) (s : List ℕ) → k < n
    → get_or (windows_in Drains seen n (register_in payload_size n s)) k [] ≡ take payload_size (drop (windows_at + payload_size * k) s)
unfolding windows_in
drains_at seen n k s h = reply-at payload_size n (register_in payload_size n s) k [] h ∙ row_in payload_size n k s h

-- in any other frame there is none
pub still_at : (seen n k : ℕ) (register : List ℕ) → get_or (windows_in Still seen n register) k [] ≡ []
unfolding windows_in empty
still_at seen zero k register = refl
still_at seen (suc n) zero register = refl
still_at seen (suc n) (suc k) register = still_at seen n k register
