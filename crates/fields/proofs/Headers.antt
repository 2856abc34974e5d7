-- Laws of the first field of a rest: when header and value are within it, and what the parts are.
use mathlib.Core.Path.{◌≡◌, refl, ap, sym, ◌∙◌}
use mathlib.Core.Bool.{Bool, true, false, cond, and-eq-true_iff}
use mathlib.Core.List.{List, []}
use Rattle.std.specs.Prelude.{Option, None, Some, Ok}
use Rattle.fields.specs.Record.{TagOf}
use Prim.Native.Nat.{ℕ, ◌+◌, ◌-◌, ◌≤◌, ◌<◌}
use native.Mathlib.Omega.{arith}
use borrow.Author.Tests.{leb-true, le-leb, lt-leb}
use lib.Dec.{leb}
use lib.ListN.{length, take, drop, length-drop}
use lib.Seq.{take_all, drop-length, length-take-le}
use Rattle.fields.specs.Bytes.{header_bytes, field_tag, field_length, field_within, header_of, field_value, field_rest}
use Rattle.fields.specs.declared.Header.{Header}
use Rattle.fields.specs.declared.tag.Tag.{Tag}
use Rattle.fields.specs.Tags.{tag_number}

module _ (rest : List ℕ) where
  -- a part from a place to the end is what is left there
  pub to_the_end : (at : ℕ) → at ≤ length rest → take (length rest - at) (drop at rest) ≡ drop at rest
  to_the_end at l = take_all (length rest - at) (drop at rest) (omega (arith, length-drop at rest))

  -- the empty part at the end
  pub nothing_left : take (length rest - length rest) (drop (length rest) rest) ≡ []
  nothing_left = to_the_end (length rest) (omega arith) ∙ drop-length rest

  pub is_within : header_bytes ≤ length rest → header_bytes + field_length rest ≤ length rest → field_within rest ≡ true
  unfolding field_within
  is_within l m = rw (le-leb header_bytes (length rest) l, le-leb (header_bytes + field_length rest) (length rest) m)

  pub header_short : length rest < header_bytes → header_of rest ≡ None
  unfolding header_of field_within
  header_short l = rw (lt-leb header_bytes (length rest) l)

  pub value_short : header_bytes ≤ length rest → length rest < header_bytes + field_length rest → header_of rest ≡ None
  unfolding header_of field_within
  value_short l m = rw (le-leb header_bytes (length rest) l, lt-leb (header_bytes + field_length rest) (length rest) m)

  -- a header is told where header and value are within the rest
  pub header_there : (h : Header) → header_of rest ≡ Some h → (field_within rest ≡ true) × (h.tag ≡ field_tag rest) × (h.length ≡ field_length rest)
  unfolding header_of
  header_there h = go (field_within rest) refl
    where
      go : (test : Bool) → field_within rest ≡ test → cond test (Some (record { tag = field_tag rest; length = field_length rest })) None ≡ Some h → (field_within rest ≡ true) × (h.tag ≡ field_tag rest) × (h.length ≡ field_length rest)
      go true is e =
          let same : ◌≡◌ {A = Header} (record { tag = field_tag rest; length = field_length rest }) h = cc in
          (is, sym (ap (λ (g : Header). g.tag) same), sym (ap (λ (g : Header). g.length) same))
      go false is e =
          let never : ◌≡◌ {A = ℕ} 0 1 = cc in
          absurd (omega arith)

  -- a field that is accepted has the first byte as its tag
  pub tag_read : (header : Option Header) (tag : Tag) → header ≡ header_of rest → TagOf header (Ok tag) → tag_number tag ≡ field_tag rest
  tag_read header tag is of = of.2 ∙ (header_there of.0 (sym is ∙ of.1)).1

  pub header_missing : header_of rest ≡ None → field_within rest ≡ false
  unfolding header_of
  header_missing = go (field_within rest)
    where
      go : (test : Bool) → cond {A = Option Header} test (Some (record { tag = field_tag rest; length = field_length rest })) None ≡ None → test ≡ false
      go true e =
          let never : ◌≡◌ {A = ℕ} 0 1 = cc in
          absurd (omega arith)
      go false e = refl

  pub value_beyond : field_within rest ≡ false → field_value rest ≡ []
  unfolding field_value
  value_beyond e = rw e

  pub rest_beyond : field_within rest ≡ false → field_rest rest ≡ []
  unfolding field_rest
  rest_beyond e = rw e

  module _ (e : field_within rest ≡ true) where
    pub within_facts : (header_bytes ≤ length rest) × (header_bytes + field_length rest ≤ length rest)
    unfolding field_within
    within_facts =
        let parts = (and-eq-true_iff (leb header_bytes (length rest)) (leb (header_bytes + field_length rest) (length rest))).0 e in
        (leb-true header_bytes (length rest) parts.0, leb-true (header_bytes + field_length rest) (length rest) parts.1)

    pub value_is : field_value rest ≡ take (field_length rest) (drop header_bytes rest)
    unfolding field_value
    value_is = rw e

    pub value_length : length (field_value rest) ≡ field_length rest
    value_length =
        ap length value_is ∙ length-take-le (field_length rest) (drop header_bytes rest) (omega (arith, within_facts.1, length-drop header_bytes rest))

    pub rest_is : field_rest rest ≡ drop (header_bytes + field_length rest) rest
    unfolding field_rest
    rest_is = rw e

  -- what a header's length cuts off
  pub header_cuts : (h : Header) → header_of rest ≡ Some h → (header_bytes + h.length ≤ length rest) × (take (header_bytes + h.length - header_bytes) (drop header_bytes rest) ≡ field_value rest) × (take (length rest - (header_bytes + h.length)) (drop (header_bytes + h.length) rest) ≡ field_rest rest)
  header_cuts h e =
      let there = header_there h e in
      let inside : header_bytes + h.length ≤ length rest = omega (arith, there.2, within_facts there.0) in
      let count : header_bytes + h.length - header_bytes ≡ field_length rest = omega (arith, there.2) in (
        inside,
        ap (λ (k : ℕ). take k (drop header_bytes rest)) count ∙ sym (value_is there.0),
        to_the_end (header_bytes + h.length) inside ∙ ap (λ (k : ℕ). drop (header_bytes + k) rest) there.2 ∙ sym (rest_is there.0),
      )

  -- the value of a header that was read ends within the rest
  pub value_inside : {header : Option Header} {h : Header} → header ≡ header_of rest → header ≡ Some h → header_bytes + h.length ≤ length rest
  value_inside read is = (header_cuts _ (sym read ∙ is)).0

  -- nothing is there at the end
  pub header_ends : header_of rest ≡ None → (take (length rest - length rest) (drop (length rest) rest) ≡ field_value rest) × (take (length rest - length rest) (drop (length rest) rest) ≡ field_rest rest)
  header_ends e = (nothing_left ∙ sym (value_beyond (header_missing e)), nothing_left ∙ sym (rest_beyond (header_missing e)))
