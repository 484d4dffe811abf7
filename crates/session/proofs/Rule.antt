-- What holds of a plan that was read and taken, by its parts, and the laws of the walks over its parties. By the tests of the definitions.
-- Assumes nothing.
use mathlib.Core.Path.{◌≡◌, refl, sym, ap, ap₂, ◌∙◌}
use mathlib.Core.Bool.{Bool, true, false, cond, not, ◌&&◌, ◌||◌, true≢false, false≢true}
use mathlib.Core.List.{List, [], ◌∷◌}
use Prim.Native.Nat.{ℕ, ◌+◌, ◌-◌, ◌*◌, ◌<◌, ◌≤◌}
use native.Mathlib.Omega.{arith}
use borrow.Author.Tests.{lt-ltb, le-ltb}
use lib.Dec.{ltb, eqb}
use lib.Pointwise.{pointwise}
use lib.ListN.{length, take, drop, replicate, length-drop}
use Rattle.std.specs.Prelude.{Some, None, Result, Ok, Err, IsOk}
use Rattle.std.specs.Result.{result_unwrap_or}
use Rattle.limits.specs.Limits.{max_parties, max_message, max_plan}
use Rattle.limits.proofs.Ranges.{numbered_within}
use Rattle.limits.proofs.Group.{group_of}
use Rattle.buffer.specs.Entries.{size}
use Rattle.buffer.specs.Splice.{spliced}
use Rattle.buffer.specs.Given.{Given, gave, value_of}
use Rattle.buffer.specs.Given.{Written}
use Rattle.buffer.specs.Given.{Refused, Done}
use Rattle.buffer.proofs.Splice.{length-spliced, take-spliced}
use Rattle.buffer.proofs.Given.{written-done}
use Rattle.cause.specs.declared.Cause.{Cause}
use Rattle.cause.specs.declared.Refusal.{Refusal}
use Rattle.cause.specs.declared.Refusal.TheVariants as refusal
use Rattle.cause.proofs.Numbers.{number-nonzero}
use Rattle.merkle.specs.Shares.{blank, same}
use Rattle.merkle.specs.Answer.{root_said}
use Rattle.party.specs.State.{happy}
use Rattle.party.specs.Steps.{open_of, root_cause, with_root, gives, refused, agree_root_of}
use Rattle.party.specs.Sender.{Begun, open_by_sender_of}
use Rattle.party.specs.declared.Party.{Party}
use Rattle.party.specs.declared.Begun.{Begun as Told}
use Rattle.party.proofs.Sender.{value-fits}
use Rattle.packet.specs.Message.{max_message_packet}
use Rattle.party.specs.Answer.{Happy, opened_by, value_by}
use Rattle.bitmap.specs.Bitmap.{names}
use Rattle.plan.specs.Layout.{session_of, map_width, member, field_at, n_in, t_in, options_in, has_root, has_bit, root_in, bit_in, good_at, good_in, books_in}
use Rattle.plan.specs.Layout.{has_sender, sender_in, good_sender, bad_sender, holders, behind_books, block_entry, sender_packet, laid_out}
use Rattle.plan.specs.Plan.{plan_cause, parts_said, parts_of, plan_of, book_given, block_given}
use Rattle.plan.specs.Plan.{Plan as Said}
use Rattle.plan.specs.declared.Plan.{Plan}
use Rattle.plan.proofs.Given.{book-none, book-some, block-given}
use Rattle.plan.proofs.Tails.{behind-there, behind-short}
use Rattle.plan.proofs.Packets.{entries_fit}
use Rattle.plan.proofs.Blocks.{entry-none}
use Rattle.plan.proofs.Accepted.{accepted, books-inside, sender-there}
use Rattle.session.specs.Session.{is_good, book_of, lowest_good, opened_by_sender, sender_wrote, handed_to, opened, agreed_root, step2, agreed_bit, unlawful}
use Rattle.session.specs.Private.{opening_of, root_begun, own_bit, many_bad, no_bit, other_root, other_bit}
use Rattle.session.specs.declared.Opening.{Opening}
use Rattle.session.specs.declared.Play.{Play}
use Rattle.session.proofs.Openings.{book-fits}
use Rattle.session.proofs.Text.{cause-is}

-- the parts of a plan that is taken
pub record Known (s : List ℕ) (parts : Plan) : Type 0 where
  pub n-is : parts.n ≡ n_in s
  pub t-is : parts.t ≡ t_in s
  pub options-are : parts.options ≡ options_in s
  pub good-is : parts.good ≡ good_in s
  pub session-is : parts.session ≡ session_of s
  pub holders-are : parts.holders ≡ holders s
  pub books-are : parts.books ≡ good_at s + map_width
  pub packets-are : parts.packets ≡ length s - length (behind_books s)
  pub low : 1 ≤ n_in s
  pub high : n_in s ≤ max_parties
  pub faults : 2 * t_in s < n_in s
  pub length-fits : length s ≤ max_plan
  pub laid : laid_out s ≡ true
  pub inside : good_at s + map_width ≤ length s
  pub sender-one : has_sender s ≡ true → (1 ≤ sender_in s) × (sender_in s ≤ n_in s)
  pub short : (q : ℕ) → length (book_of s q) ≤ max_message

pub taken : (p : Play) → plan_cause p.bytes.now ≡ 0
taken p = sym (cause-is p.bytes.now) ∙ ap (λ (x : Said). x.cause) (sym p.read)

parts-are : (s : List ℕ) → plan_cause s ≡ 0 → plan_of s ≡ parts_of s
unfolding plan_of
parts-are s e = rw e

pub known : (p : Play) → Known p.bytes.now p.parts
known p =
    let s = p.bytes.now in
    let e : parts_said p.parts ≡ parts_of s = p.read ∙ parts-are s (taken p) in
    let a = accepted s (taken p) in
    let g = group_of (n_in s) (t_in s) a.group in
    record {
      n-is = ap (λ (x : Said). x.n) e;
      t-is = ap (λ (x : Said). x.t) e;
      options-are = ap (λ (x : Said). x.options) e;
      good-is = ap (λ (x : Said). x.good) e;
      session-is = ap (λ (x : Said). x.session) e;
      holders-are = ap (λ (x : Said). x.holders) e;
      books-are = ap (λ (x : Said). x.books) e;
      packets-are = ap (λ (x : Said). x.packets) e;
      low = g.low;
      high = g.high;
      faults = g.faults;
      length-fits = a.length-fits;
      laid = a.laid;
      inside = books-inside s a.laid;
      sender-one = sender-there s a;
      short = book-fits s (taken p);
    }

-- its sender
named-by : (b : Bool) (q x : ℕ) → Some q ≡ cond b (Some x) None → (b ≡ true) × (q ≡ x)
named-by true q x e = (refl, cc)
named-by false q x e = absurd (let z : ◌≡◌ {A = ℕ} 0 1 = cc in omega arith)

none-by : (b : Bool) (x : ℕ) → None ≡ cond b (Some x) None → b ≡ false
none-by true x e = absurd (let z : ◌≡◌ {A = ℕ} 0 1 = cc in omega arith)
none-by false x e = refl

pub sender-named : (p : Play) (q : ℕ) → p.parts.sender ≡ Some q → (has_sender p.bytes.now ≡ true) × (q ≡ sender_in p.bytes.now)
sender-named p q e = named-by (has_sender p.bytes.now) q (sender_in p.bytes.now) (sym e ∙ p.sender_is)

pub sender-none : (p : Play) → p.parts.sender ≡ None → has_sender p.bytes.now ≡ false
sender-none p e = none-by (has_sender p.bytes.now) (sender_in p.bytes.now) (sym e ∙ p.sender_is)

-- the root that an opening gives, and what it wrote
root-or-blank : (r : Result (List ℕ) Cause) → result_unwrap_or r blank ≡ (root_said r).root
root-or-blank (Ok w) = refl
root-or-blank (Err c) = refl

pub opening-by : (x : Party) (r : Result Told (Refusal Cause)) (w : List ℕ) → w ≡ root_begun r
    → ◌≡◌ {A = Opening} (record { state = x; root = w }) (opening_of (opened_by x r))
opening-by x (Ok b) w h = ap {B = Opening} (λ (l : List ℕ). record { state = x; root = l }) h
opening-by x (Err (refusal.Because c)) w h = ap {B = Opening} (λ (l : List ℕ). record { state = x; root = l }) h
opening-by x (Err (refusal.Short k)) w h = ap {B = Opening} (λ (l : List ℕ). record { state = x; root = l }) h

pub opening-plain : (x : Party) (r : Result (List ℕ) Cause) (w : List ℕ) → w ≡ result_unwrap_or r blank
    → ◌≡◌ {A = Opening} (record { state = x; root = w }) (record { state = x; root = (root_said r).root })
opening-plain x r w h = ap {B = Opening} (λ (l : List ℕ). record { state = x; root = l }) (h ∙ root-or-blank r)

pub begun-ok : (x : Party) (r : Result Told (Refusal Cause)) → (opened_by x r).cause ≡ 0 → IsOk r
begun-ok x (Ok b) e = refl
begun-ok x (Err (refusal.Because c)) e = elim (number-nonzero c e) [ ]
begun-ok x (Err (refusal.Short k)) e = absurd (let z : ◌≡◌ {A = ℕ} 9 0 = e in omega arith)

pub begun-value : (r : Result Told (Refusal Cause)) (b : Told) → r ≡ Ok b → value_by r ≡ b.len
begun-value r b e = ap value_by e

-- what the code reads of such a plan is what the definitions say
module _ (s : List ℕ) (parts : Plan) (k : Known s parts) where
  pub good-named : (q : ℕ) → names parts.good q ≡ is_good s q
  good-named q = ap (λ (g : ℕ). names g q) k.good-is

  pub books-room : parts.books ≤ length s
  books-room = omega (arith, k.books-are, k.inside)

  pub option-named : (j : ℕ) → names parts.options j ≡ names (options_in s) j
  option-named j = ap (λ (o : ℕ). names o j) k.options-are

  pub field_is : (j : ℕ) → field_at parts.options j ≡ field_at (options_in s) j
  field_is j = ap (λ (o : ℕ). field_at o j) k.options-are

  pub packets-room : parts.packets ≤ length s
  packets-room = omega (arith, k.packets-are)

  pub open_is : (H : List ℕ → List ℕ) (q : ℕ) (m : List ℕ) → has_sender s ≡ false → m ≡ book_of s q
      → open_of H parts.session parts.n parts.t q m ≡ opened H s q
  unfolding opened
  open_is H q m none e = rw (k.session-is, k.n-is, k.t-is, e, none)

  pub open_by : (H : List ℕ → List ℕ) (q : ℕ) → has_sender s ≡ true → (opened_by_sender H s q (handed_to H s q)).opened ≡ opened H s q
  unfolding opened
  open_by H q h = rw h

  -- an opening by the sender, and what the sender wrote in its own
  pub opens-by : (H : List ℕ → List ℕ) (q sender : ℕ) (m out : List ℕ) → sender ≡ sender_in s → out ≡ replicate max_message_packet 0
      → open_by_sender_of H parts.session parts.n parts.t q sender m out ≡ opened_by_sender H s q m
  unfolding opened_by_sender
  opens-by H q sender m out e z = rw (k.session-is, k.n-is, k.t-is, e, z)

  pub sender-gives : (H : List ℕ → List ℕ) (q : ℕ) (m : List ℕ) → q ≡ sender_in s → m ≡ book_of s q → (r : Begun) → r ≡ opened_by_sender H s q m
      → (r.value ≤ max_message_packet) × (take r.value r.buffer ≡ sender_wrote H s)
  unfolding sender_wrote opened_by_sender
  sender-gives H q m z e r w =
      let p = sender_in s in
      let out = replicate {A = ℕ} max_message_packet 0 in
      let g : r ≡ opened_by_sender H s p (book_of s p) = w ∙ ap (opened_by_sender H s q) e ∙ ap (λ (i : ℕ). opened_by_sender H s i (book_of s i)) z in (
        omega (arith, ap (λ (x : Begun). x.value) g, value-fits (n_in s) (t_in s) p p (book_of s p) H (session_of s) out),
        ap (λ (x : Begun). take x.value x.buffer) g,
      )

  -- whether a sender is good, and what the plan says that a bad one sends
  pub sender-good : has_sender s ≡ true → (q : ℕ) → q ≡ sender_in s → is_good s q ≡ good_sender s
  sender-good h q e =
      let r = k.sender-one h in
      ap (is_good s) e ∙ sym (rw (h, numbered_within (n_in s) (sender_in s) r.0 r.1))

  pub block-told : has_sender s ≡ true → good_sender s ≡ false → (q : ℕ) (out : List ℕ) → max_plan ≤ length out → (r : Written) (o : List ℕ)
      → gave r o ≡ block_given parts.n q (drop parts.packets s) out
      → (value_of r ≤ length o) × (take (value_of r) o ≡ sender_packet q s)
  unfolding sender_packet
  block-told h bad q out long r o e =
      let x = block_entry (n_in s) q (behind_books s) in
      let fits : length x ≤ length out =
      omega (
        arith,
        long,
        k.length-fits,
        behind-short s,
        length-drop map_width (behind_books s),
        entries_fit (n_in s) (size (behind_books s)) q (drop map_width (behind_books s)),
      ) in
      let g : gave r o ≡ gave (Done (length x)) (spliced out 0 x) =
      e ∙ rw (k.n-is, k.packets-are, behind-there s)
      (block-given (n_in s) q (behind_books s) out k.low k.high ∙ written-done x out fits) in
      let v : value_of r ≡ length x = ap (λ (y : Given). y.value) g in
      let b : o ≡ spliced out 0 x = ap (λ (y : Given). y.buffer) g in (
        omega (arith, v, ap length b, length-spliced out 0 x (omega (arith, fits)), fits),
        ap₂ take v b ∙ take-spliced out x ∙ sym (bad-block h bad),
      )
    where
      bad-block : has_sender s ≡ true → good_sender s ≡ false
          → cond (bad_sender s) (block_entry (n_in s) q (behind_books s)) [] ≡ block_entry (n_in s) q (behind_books s)
      bad-block a b = go (has_sender s) (member (n_in s) (good_in s) (sender_in s)) a b
        where
          go : (x y : Bool) → x ≡ true → x && y ≡ false
              → cond (x && not y) (block_entry (n_in s) q (behind_books s)) [] ≡ block_entry (n_in s) q (behind_books s)
          go true true e f = absurd (true≢false f)
          go true false e f = refl
          go false y e f = absurd (false≢true e)

  -- the answer for a book: a party whose book is listed has one, and another none
  pub book-told : (q : ℕ) (out : List ℕ) → max_message ≤ length out → (r : Written) (o : List ℕ)
      → gave r o ≡ book_given parts.n parts.holders q (drop parts.books s) out
      → (value_of r ≤ max_message) × (take (value_of r) o ≡ book_of s q)
  unfolding book_of
  book-told q out long r o e = go (member (n_in s) (holders s) q) refl
    where
      b : List ℕ
      b = book_of s q

      go : (x : Bool) → member (n_in s) (holders s) q ≡ x → (value_of r ≤ max_message) × (take (value_of r) o ≡ book_of s q)
      go true there =
          let g : gave r o ≡ gave (Done (length b)) (spliced out 0 b) =
          e ∙ rw (k.n-is, k.holders-are, k.books-are)
          (book-some (n_in s) (holders s) q (books_in s) out k.low k.high there ∙ written-done b out (omega (arith, long, k.short q))) in
          let v : value_of r ≡ length b = ap (λ (x : Given). x.value) g in
          (omega (arith, v, k.short q), ap₂ take v (ap (λ (x : Given). x.buffer) g) ∙ take-spliced out b)
      go false none =
          let g : gave r o ≡ gave (Refused 3) out =
          e ∙ rw (k.n-is, k.holders-are, k.books-are) (book-none (n_in s) (holders s) q (books_in s) out k.low k.high none) in
          let v : value_of r ≡ 0 = ap (λ (x : Given). x.value) g in
          (omega (arith, v), ap (λ (i : ℕ). take i o) v ∙ sym (entry-none (n_in s) (holders s) q (books_in s) none))

-- the agreed root and bit: given, or the lowest-numbered good party's
module _ (H : List ℕ → List ℕ) (s : List ℕ) where
  root_by : (b : Bool) → has_root s ≡ b → agreed_root H s ≡ cond b (root_in s) (opened H s (lowest_good s)).root
  unfolding agreed_root
  root_by b h = ap (λ (c : Bool). cond c (root_in s) (opened H s (lowest_good s)).root) h

  pub root-given : has_root s ≡ true → agreed_root H s ≡ root_in s
  root-given h = root_by true h

  pub root-own : has_root s ≡ false → agreed_root H s ≡ (opened H s (lowest_good s)).root
  root-own h = root_by false h

  bit-by : (b : Bool) → has_bit s ≡ b → agreed_bit H s ≡ cond b (bit_in s) (step2 H s (lowest_good s)).value
  unfolding agreed_bit
  bit-by b h = ap (λ (c : Bool). cond c (bit_in s) (step2 H s (lowest_good s)).value) h

  pub bit-given : has_bit s ≡ true → agreed_bit H s ≡ bit_in s
  bit-given h = bit-by true h

  pub bit-own : has_bit s ≡ false → agreed_bit H s ≡ (step2 H s (lowest_good s)).value
  bit-own h = bit-by false h

  -- the bit that a party gives in step 2
  pub bit-told : (q : ℕ) → own_bit (step2 H s q).answer ≡ (step2 H s q).value
  unfolding step2 agree_root_of
  bit-told q = go (not (eqb (root_cause x z) 0))
    where
      x : Party
      x = (opened H s q).state

      z : List ℕ
      z = agreed_root H s

      go : (b : Bool)
          → let r = cond b (refused x (root_cause x z) []) (gives (with_root x z) (Happy (happy H (with_root x z))) []) in
          own_bit r.answer ≡ r.value
      go true = refl
      go false = refl

-- the rule of the short agreement, by its four tests
module _ (s : List ℕ) where
  pub bit-none : has_bit s ≡ false → no_bit s ≡ false
  bit-none h = ap (λ (x : Bool). x && ltb 1 (bit_in s)) h

module _ (H : List ℕ → List ℕ) (s : List ℕ) where
  pub bit-beyond : has_bit s ≡ true → 1 < agreed_bit H s → no_bit s ≡ true
  bit-beyond h l = ap₂ (λ (x y : Bool). x && y) h (lt-ltb 1 (bit_in s) (omega (arith, bit-given H s h)))

  pub bit-low : has_bit s ≡ true → agreed_bit H s ≤ 1 → no_bit s ≡ false
  bit-low h l = ap₂ (λ (x y : Bool). x && y) h (le-ltb 1 (bit_in s) (omega (arith, bit-given H s h)))

  pub unlawful-many : many_bad s ≡ true → unlawful H s ≡ true
  unfolding unlawful
  unlawful-many a = ap (λ (x : Bool). x || no_bit s || other_root H s || other_bit H s) a

  module _ (a : many_bad s ≡ false) where
    pub unlawful-bit : no_bit s ≡ true → unlawful H s ≡ true
    unfolding unlawful
    unlawful-bit b = ap₂ (λ (x y : Bool). x || y || other_root H s || other_bit H s) a b

    module _ (b : no_bit s ≡ false) where
      pub unlawful-root : other_root H s ≡ true → unlawful H s ≡ true
      unfolding unlawful
      unlawful-root c = ap₂ (λ (x y : Bool). x || y || other_root H s || other_bit H s) a b ∙ ap (λ (x : Bool). x || other_bit H s) c

      pub unlawful-vote : other_root H s ≡ false → unlawful H s ≡ other_bit H s
      unfolding unlawful
      unlawful-vote c = ap₂ (λ (x y : Bool). x || y || other_root H s || other_bit H s) a b ∙ ap (λ (x : Bool). x || other_bit H s) c

-- whether two roots are one, as the code compares them
pub equal-is : (a b : List ℕ) → pointwise eqb a b ≡ same a b
unfolding same
equal-is [] [] = refl
equal-is [] (y ∷ b) = refl
equal-is (x ∷ a) [] = refl
equal-is (x ∷ a) (y ∷ b) = ap (λ (t : Bool). eqb x y && t) (equal-is a b)
