-- The frame for a code, n monitors and values: its length; its first four bytes are a command and its right check, and the
-- command is the code; what follows hands each monitor its own data bytes, sealed, or is filler. And what a request that is
-- accepted or refused leaves in the buffer.
-- Assumes nothing.
use mathlib.Core.Path.{◌≡◌, refl, sym, ap, ◌∙◌}
use mathlib.Core.Bool.{true}
use mathlib.Core.List.{List, [], ◌++◌, map}
use Prim.Native.Nat.{ℕ, ◌+◌, ◌*◌, ◌≤◌, ◌<◌}
use native.Mathlib.Nat.{zero-add, div-add-mod'}
use native.Mathlib.Omega.{arith}
use lib.ListN.{length, get_or, take, drop, replicate, length-append, length-replicate}
use lib.Seq.{take_at, drop_at}
use Rattle.laying.specs.Placed.{placed}
use Rattle.laying.proofs.Placed.{placed_more}
use Rattle.refusals.specs.declared.Refusal.{Refusal}
use Rattle.laws.specs.Rows.{rows}
use Rattle.laws.proofs.Lists.{get_d_map}
use Rattle.laws.proofs.Rows.{length-rows, rows_lengths}
use Rattle.pec.specs.Words.{two_bytes, word_at, command_check, command_right, sealed_right}
use Rattle.pec.proofs.CheckWords.{command_check-right}
use Rattle.wire.specs.Order.{write_payloads}
use Rattle.records.specs.declared.commands.Command.{Command}
use Rattle.records.specs.declared.commands.Write.{Write}
use Rattle.records.specs.declared.commands.Command.TheVariants.{Reads, Writes, Bares, Unlisted}
use Rattle.records.specs.declared.record.Part.{Part}
use Rattle.records.specs.Commands.{commands, command_of, data_size, payload_size, width_of, frame_length}
use Rattle.host.specs.Frames.{head_size, sealed, body, value_count, frame_for, built, buffer_after}
use Rattle.host.proofs.Judging.{Buildable, by_judgement, buildable_accepted, accepted-length, accepted_buildable, built-by, after-by}
use Rattle.host.proofs.Payloads.{length_data, payloads_round, sealed-right}
use Rattle.std.specs.Prelude.{Result, Ok, Err}

-- ---- how long

-- the command and its check
abbrev pub head : ℕ → List ℕ
head code = two_bytes code ++ command_check code

pub length-head : (code : ℕ) → length (head code) ≡ head_size
unfolding two_bytes command_check
length-head code = refl

-- what follows them
pub length-body : (command : Command) (n : ℕ) (values : List ℕ) → length values ≡ value_count command n
    → head_size + length (body command n values) ≡ frame_length command n
unfolding body
length-body (Reads part) n values e = ap (λ (m : ℕ). head_size + m) (length-replicate (payload_size * n) 0xFF)
length-body (Writes w) n values e = ap (λ (m : ℕ). head_size + m) (length_data (data_size w) n values e)
length-body (Bares b) n values e = refl
length-body Unlisted n values e = refl

module _ (code n : ℕ) (values : List ℕ) where
  abbrev frame : List ℕ
  frame = frame_for code n values

  abbrev command : Command
  command = command_of code commands

  pub length-frame : length values ≡ value_count command n → length frame ≡ frame_length command n
  unfolding frame_for
  length-frame e =
      length-append (head code) (body command n values)
      ∙ ap (λ (m : ℕ). m + length (body command n values)) (length-head code)
      ∙ length-body command n values e

  -- ---- the first four bytes

  pub frame-head : take head_size frame ≡ head code
  unfolding frame_for
  frame-head = take_at (head code) (body command n values) head_size (length-head code)

  pub frame_right : command_right (take head_size frame) ≡ true
  frame_right = ap command_right frame-head ∙ command_check-right code

  pub frame-code : word_at frame 0 ≡ code
  unfolding frame_for two_bytes word_at
  frame-code = div-add-mod' code 256

  -- ---- what follows

  pub frame-body : drop head_size frame ≡ body command n values
  unfolding frame_for
  frame-body = drop_at (head code) (body command n values) head_size (length-head code)

  -- a read: filler for each monitor's reply
  pub read_filler : (part : Part) → command ≡ Reads part → drop head_size frame ≡ replicate (payload_size * n) 0xFF
  unfolding body
  read_filler part e = frame-body ∙ ap (λ (c : Command). body c n values) e

  -- a write: each monitor gets its own data bytes, sealed
  module _ (w : Write) (e : command ≡ Writes w) (count : length values ≡ data_size w * n) where
    pub write-payloads : write_payloads (width_of (Writes w)) n (drop head_size frame) ≡ map sealed (rows (data_size w) n values)
    unfolding body
    write-payloads =
        ap (write_payloads (width_of (Writes w)) n) (frame-body ∙ ap (λ (c : Command). body c n values) e) ∙ payloads_round (data_size w) n values count

    -- and each finds them right
    pub write_right : (k : ℕ) → k < n → sealed_right (data_size w) (get_or (write_payloads (width_of (Writes w)) n (drop head_size frame)) k []) ≡ true
    write_right k h =
        let own = rows (data_size w) n values in
        let l = length-rows (data_size w) n values in
        ap (λ (rs : List (List ℕ)). sealed_right (data_size w) (get_or rs k [])) write-payloads
        ∙ ap (sealed_right (data_size w)) (get_d_map sealed own k [] [] (omega arith))
        ∙ sealed-right (get_or own k []) (rows_lengths (data_size w) n values k [] h (omega arith))

-- ---- what comes of a request

pub head-fits : (command : Command) (n : ℕ) → head_size ≤ frame_length command n
head-fits (Reads part) n = omega arith
head-fits (Writes w) n = omega arith
head-fits (Bares b) n = omega arith
head-fits Unlisted n = omega arith

module _ (code n : ℕ) (values buffer : List ℕ) where
  abbrev asked : Result ℕ Refusal
  asked = built code n values (length buffer)

  -- by the outcome
  by-outcome : {b : Result ℕ Refusal} → asked ≡ b → buffer_after code n values buffer ≡ by_judgement (λ r. buffer) (λ l. frame_for code n values ++ drop l buffer) b
  by-outcome e =
      after-by code n values buffer
      ∙ ap (by_judgement (λ r. buffer) (λ l. frame_for code n values ++ drop l buffer)) (sym (built-by code n values (length buffer)) ∙ e)

  -- refused: nothing changes
  pub built-refused : (r : Refusal) → asked ≡ Err r → buffer_after code n values buffer ≡ buffer
  built-refused r e = by-outcome e

  -- accepted: no refusal held
  pub built_buildable : {l : ℕ} → asked ≡ Ok l → Buildable (command_of code commands) n (length values) (length buffer)
  built_buildable e =
      accepted_buildable (command_of code commands) n (length values) (length buffer) (sym (built-by code n values (length buffer)) ∙ e)

  -- the frame is at the buffer's start, its length is told, and the bytes past it stay
  pub built-accepted : {l : ℕ} → asked ≡ Ok l
      → (l ≡ length (frame_for code n values)) × (buffer_after code n values buffer ≡ frame_for code n values ++ drop l buffer)
  built-accepted e = (
    accepted-length (command_of code commands) n (length values) (length buffer) (sym (built-by code n values (length buffer)) ∙ e)
        ∙ sym (length-frame code n values (built_buildable e).count),
    by-outcome e,
  )

  -- the command and its check put at the start, and then what follows
  pub placed-accepted : {l : ℕ} → asked ≡ Ok l
      → placed head_size (body (command_of code commands) n values) (placed 0 (head code) buffer) ≡ buffer_after code n values buffer
  unfolding frame_for
  placed-accepted e =
      let b = built_buildable e in
      let a = built-accepted e in
      placed_more 0 head_size (head code) buffer (zero-add (length (head code)) ∙ length-head code) (omega (arith, b.fits, head-fits (command_of code commands) n)) (body (command_of code commands) n values)
      ∙ unfold placed in ap (λ (m : ℕ). frame_for code n values ++ drop m buffer) (zero-add (length (frame_for code n values)) ∙ sym a.0)
      ∙ sym a.1

  -- a request is accepted where no refusal holds
  pub built-given : Buildable (command_of code commands) n (length values) (length buffer)
      → (asked ≡ Ok (length (frame_for code n values)))
      × (buffer_after code n values buffer ≡ frame_for code n values ++ drop (length (frame_for code n values)) buffer)
  built-given b =
      let e : asked ≡ Ok (length (frame_for code n values)) = built-by code n values (length buffer) ∙ buildable_accepted (command_of code commands) n (length values) (length buffer) b ∙ ap Ok (sym (length-frame code n values b.count)) in
      (e, by-outcome e)
