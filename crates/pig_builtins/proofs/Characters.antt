-- Texts by their characters: what stands in a text's bytes stands in its characters, at the place that counts them.
use Rattle.std.proofs.Common.{◌≡◌, ◌<◌, ◌≤◌, ◌+◌, ◌-◌, ℕ, zero, suc, List, [], ◌∷◌, ◌++◌, length, take, drop, get_or, refl, sym, ap, ◌∙◌, subst, arith, append_assoc, length-append, length-drop}
use Rattle.std.specs.Prelude.{Bool, true, false, ◌&&◌, ◌↔◌, IsTrue, nat_eq, slice_range, Some, None, pos, min, leb}
use Rattle.std.specs.Bool.{Decides, one_answer}
use Rattle.std.specs.Char.{encode_utf8}
use Rattle.std.specs.List.{find, range_with_len, starts_with, ends_with}
use Rattle.std.specs.Str.{all_scalars, chars, encode_utf8_all, IsUtf8, IsCharBoundary}
use Rattle.std.proofs.lemmas.List.{take-append-drop, take-append-le, length-take-le, drop-drop, append-nil, take_all, take_min}
use Rattle.std.proofs.Math.Seq.{take-append_seam, drop-append_seam, drop-length}
use Rattle.std.proofs.lemmas.Slice.Eq.{bytes_eq-Decides}
use Rattle.std.proofs.lemmas.Str.{cons_from_encodes, encodes-append, encodes-chars, chars-append, length-le-encodes, IsUtf8-take, IsUtf8-drop, IsCharBoundary-start, IsCharBoundary-end, IsCharBoundary-at_seam, scalars-chars, chars-encodes}
use Rattle.std.proofs.lemmas.Bool.{le-leb, lt-leb}
use Rattle.std.specs.Option.{option_map}
use Rattle.bstr.specs.Find.{OccursAt, NoneBefore, Nowhere}
use Rattle.memchr.proofs.lemmas.MatchLemmas.{OccursAt-split, OccursAt-from_part}
use Rattle.std.proofs.Math.Utf8.{scalar}
use Rattle.pig_value.specs.Functions.{first_place, substring}

-- bytes that stand between others
occurs_between : (xs needle zs : List ℕ) → OccursAt (xs ++ (needle ++ zs)) needle (length xs)
occurs_between xs needle zs =
    let n = length-append xs (needle ++ zs) in
    let m = length-append needle zs in
    OccursAt-from_part (xs ++ (needle ++ zs)) needle (length xs) (omega arith)
    (ap (take (length needle)) (drop-append_seam xs (needle ++ zs)) ∙ take-append_seam needle zs)

-- characters whose bytes begin with those of others begin with the others
begun : (cs ds rest : List ℕ) → encode_utf8_all cs ≡ encode_utf8_all ds ++ rest → (es : List ℕ) × (cs ≡ ds ++ es)
begun cs [] rest e = (cs, refl)
begun cs (d ∷ ds) rest e =
    let first = cons_from_encodes cs (encode_utf8_all ds ++ rest) d (e ∙ append_assoc (encode_utf8 d) (encode_utf8_all ds) rest) in
    let more = begun first.0 ds rest first.2 in
    (more.0, first.1 ∙ ap (λ l. d ∷ l) more.1)

starts : (cs ds es : List ℕ) → cs ≡ ds ++ es → starts_with nat_eq cs ds ≡ true
starts cs ds es e = (bytes_eq-Decides ds (take (length ds) cs)).1 (sym (ap (take (length ds)) e ∙ take-append_seam ds es))

started : (cs ds : List ℕ) → starts_with nat_eq cs ds ≡ true → cs ≡ ds ++ drop (length ds) cs
started cs ds h = sym (take-append-drop (length ds) cs) ∙ ap (λ l. l ++ drop (length ds) cs) (sym ((bytes_eq-Decides ds (take (length ds) cs)).0 h))

-- by its characters a text begins with another where it does by its bytes
pub starts_is : (cs ds : List ℕ) → Decides (starts_with nat_eq cs ds) (OccursAt (encode_utf8_all cs) (encode_utf8_all ds) 0)
starts_is cs ds = (
  λ h. let more = drop (length ds) cs in
      subst (λ bytes. OccursAt bytes (encode_utf8_all ds) 0) (sym (ap encode_utf8_all (started cs ds h) ∙ encodes-append ds more))
      (occurs_between [] (encode_utf8_all ds) (encode_utf8_all more)),
  λ at. let split = begun cs ds _ (OccursAt-split (encode_utf8_all cs) (encode_utf8_all ds) 0 at) in starts cs ds split.0 split.1,
)

-- the first number from `a` on that passes, and that none does
found_from : (test : ℕ → Bool) (a n k : ℕ) → k < n → test (a + k) ≡ true → ((j : ℕ) → j < k → test (a + j) ≡ false) → find test (range_with_len a n) ≡ Some (a + k)
found_from test a zero k within passes before = absurd (omega (arith, within))
found_from test a (suc n) zero within passes before =
    let e : a + 0 ≡ a = omega arith in
    rw (ap test (sym e) ∙ passes) (ap Some (sym e))
found_from test a (suc n) (suc k) within passes before =
    let e : a + 0 ≡ a = omega arith in
    let move : (j : ℕ) → a + suc j ≡ a + 1 + j = λ j. omega arith in
    rw (ap test (sym e) ∙ before 0 (omega arith))
    (found_from test (a + 1) n k (omega (arith, within)) (ap test (sym (move k)) ∙ passes) (λ j h. ap test (sym (move j)) ∙ before (suc j) (omega (arith, h)))
    ∙ ap Some (sym (move k)))

none_from : (test : ℕ → Bool) (a n : ℕ) → ((j : ℕ) → j < n → test (a + j) ≡ false) → find test (range_with_len a n) ≡ None
none_from test a zero fails = refl
none_from test a (suc n) fails =
    let e : a + 0 ≡ a = omega arith in
    let move : (j : ℕ) → a + suc j ≡ a + 1 + j = λ j. omega arith in
    rw (ap test (sym e) ∙ fails 0 (omega arith)) (none_from test (a + 1) n (λ j h. ap test (sym (move j)) ∙ fails (suc j) (omega (arith, h))))

zero_and : (j : ℕ) → 0 + j ≡ j
zero_and j = omega arith

found : (test : ℕ → Bool) (n k : ℕ) → k < n → test k ≡ true → ((j : ℕ) → j < k → test j ≡ false) → find test (range_with_len 0 n) ≡ Some k
found test n k within passes before =
    found_from test 0 n k within (ap test (zero_and k) ∙ passes) (λ j h. ap test (zero_and j) ∙ before j h) ∙ ap Some (zero_and k)

none_found : (test : ℕ → Bool) (n : ℕ) → ((j : ℕ) → j < n → test j ≡ false) → find test (range_with_len 0 n) ≡ None
none_found test n fails = none_from test 0 n (λ j h. ap test (zero_and j) ∙ fails j h)

not_true : (b : Bool) → (b ≡ true → ⊥) → b ≡ false
not_true true h = absurd (h refl)
not_true false h = refl

-- a text's bytes in place of those of its characters
by_bytes : (b : Bool) (hay needle : List ℕ) → IsUtf8 hay → IsUtf8 needle → Decides b (OccursAt (encode_utf8_all (chars hay)) (encode_utf8_all (chars needle)) 0) → Decides b (OccursAt hay needle 0)
by_bytes b hay needle u v h =
    subst (λ n. Decides b (OccursAt hay n 0)) (encodes-chars needle v)
    (subst (λ x. Decides b (OccursAt x (encode_utf8_all (chars needle)) 0)) (encodes-chars hay u) h)

pub starts_text : (text front : List ℕ) (b : Bool) → IsUtf8 text → IsUtf8 front → (IsTrue b ↔ OccursAt text front 0) → b ≡ starts_with nat_eq (chars text) (chars front)
starts_text text front b u v h =
    one_answer b (starts_with nat_eq (chars text) (chars front)) (h.0, h.1)
    (by_bytes (starts_with nat_eq (chars text) (chars front)) text front u v (starts_is (chars text) (chars front)))

-- where other characters begin within characters, their bytes stand
occurs_on : (cs ds : List ℕ) (q : ℕ) → starts_with nat_eq (drop q cs) ds ≡ true → OccursAt (encode_utf8_all cs) (encode_utf8_all ds) (length (encode_utf8_all (take q cs)))
occurs_on cs ds q h =
    let more = drop (length ds) (drop q cs) in
    let is : cs ≡ take q cs ++ (ds ++ more) = sym (take-append-drop q cs) ∙ ap (λ l. take q cs ++ l) (started (drop q cs) ds h) in
    let bytes : encode_utf8_all cs ≡ encode_utf8_all (take q cs) ++ (encode_utf8_all ds ++ encode_utf8_all more)
    = ap encode_utf8_all is ∙ encodes-append (take q cs) (ds ++ more) ∙ ap (λ l. encode_utf8_all (take q cs) ++ l) (encodes-append ds more) in
    subst (λ x. OccursAt x (encode_utf8_all ds) (length (encode_utf8_all (take q cs)))) (sym bytes)
    (occurs_between (encode_utf8_all (take q cs)) (encode_utf8_all ds) (encode_utf8_all more))

-- a text stands only where a character begins
boundary_at : (hay needle : List ℕ) (k : ℕ) → IsUtf8 needle → OccursAt hay needle k → 0 < length needle → IsCharBoundary hay k
boundary_at hay needle k v at some =
    let fits = at.fits in
    let e : k + 0 ≡ k = omega arith in
    let same : get_or hay k 0 ≡ get_or needle 0 0 = ap (λ i. get_or hay i 0) (sym e) ∙ at.reads 0 some in
    (omega arith, λ h big. subst (λ b. 192 ≤ b) (sym same) ((IsCharBoundary-start needle v).1 some (subst (λ b. 128 ≤ b) same big)))

nothing_occurs : (hay : List ℕ) → OccursAt hay [] 0
nothing_occurs hay = occurs_between [] [] hay

-- the same, where what stands before is left out
occurs_dropped : (hay needle : List ℕ) (k : ℕ) → OccursAt hay needle k → OccursAt (drop k hay) needle 0
occurs_dropped hay needle k at =
    subst (λ x. OccursAt x needle 0) (sym (OccursAt-split hay needle k at)) (occurs_between [] needle (drop (k + length needle) hay))

pub first_boundary : (hay needle : List ℕ) (k : ℕ) → IsUtf8 hay → IsUtf8 needle → NoneBefore (OccursAt hay needle) 0 (length hay + 1) k → OccursAt hay needle k → IsCharBoundary hay k
first_boundary hay [] zero u v none at = IsCharBoundary-start hay u
first_boundary hay [] (suc k) u v none at = absurd (none.before 0 (omega arith) (omega arith) (nothing_occurs hay))
first_boundary hay (b ∷ bs) k u v none at = boundary_at hay (b ∷ bs) k v at (omega arith)

-- the characters before a place where a character begins, and those from there on
parted : (hay : List ℕ) (k : ℕ) → IsUtf8 hay → IsCharBoundary hay k → chars hay ≡ chars (take k hay) ++ chars (drop k hay)
parted hay k u at = ap chars (sym (take-append-drop k hay)) ∙ chars-append (take k hay) (drop k hay) (IsUtf8-take hay k u at)

-- the bytes before a character of the front are fewer than those of the front
shorter : (front back : List ℕ) (q : ℕ) → q < length front → length (encode_utf8_all (take q (front ++ back))) < length (encode_utf8_all front)
shorter front back q h =
    let cut : take q (front ++ back) ≡ take q front = take-append-le q front back (omega (arith, h)) in
    let whole : length (encode_utf8_all front) ≡ length (encode_utf8_all (take q front)) + length (encode_utf8_all (drop q front))
    = ap (λ l. length (encode_utf8_all l)) (sym (take-append-drop q front)) ∙ ap length (encodes-append (take q front) (drop q front))
    ∙ length-append (encode_utf8_all (take q front)) (encode_utf8_all (drop q front)) in
    let some = length-le-encodes (drop q front) in
    let left = length-drop q front in
    let same = ap (λ l. length (encode_utf8_all l)) cut in
    omega arith

pub place_found : (hay needle : List ℕ) (k : ℕ) → IsUtf8 hay → IsUtf8 needle → NoneBefore (OccursAt hay needle) 0 (length hay + 1) k → OccursAt hay needle k
    → first_place (chars hay) (chars needle) ≡ Some (length (chars (take k hay)))
place_found hay needle k u v none at =
    let edge = first_boundary hay needle k u v none at in
    let front = chars (take k hay) in
    let back = chars (drop k hay) in
    let cs = chars hay in
    let ds = chars needle in
    let is : cs ≡ front ++ back = parted hay k u edge in
    let fits : length (take k hay) ≡ k = length-take-le k hay edge.0 in
    let size : length (encode_utf8_all front) ≡ k = ap length (encodes-chars (take k hay) (IsUtf8-take hay k u edge)) ∙ fits in
    let here : starts_with nat_eq (drop (length front) cs) ds ≡ true
    = ap (λ l. starts_with nat_eq (drop (length front) l) ds) is ∙ ap (λ l. starts_with nat_eq l ds) (drop-append_seam front back)
    ∙ (by_bytes (starts_with nat_eq back ds) (drop k hay) needle (IsUtf8-drop hay k u edge) v (starts_is back ds)).1 (occurs_dropped hay needle k at) in
    let not_before : (j : ℕ) → j < length front → starts_with nat_eq (drop j cs) ds ≡ false
    = λ j h. not_true (starts_with nat_eq (drop j cs) ds) (λ e.
    let stands : OccursAt hay needle (length (encode_utf8_all (take j cs)))
    = subst (λ x. OccursAt x needle (length (encode_utf8_all (take j cs)))) (encodes-chars hay u)
    (subst (λ n. OccursAt (encode_utf8_all cs) n (length (encode_utf8_all (take j cs)))) (encodes-chars needle v) (occurs_on cs ds j e)) in
    let less = shorter front back j h in
    let same = ap (λ l. length (encode_utf8_all (take j l))) is in
    none.before (length (encode_utf8_all (take j cs))) (omega arith) (omega arith) stands) in
    let total : length cs ≡ length front + length back = ap length is ∙ length-append front back in
    found (λ place. starts_with nat_eq (drop place cs) ds) (length cs + 1) (length front) (omega arith) here not_before

pub place_lost : (hay needle : List ℕ) → IsUtf8 hay → IsUtf8 needle → Nowhere (OccursAt hay needle) 0 (length hay + 1) → first_place (chars hay) (chars needle) ≡ None
place_lost hay needle u v nowhere =
    let cs = chars hay in
    let ds = chars needle in
    none_found (λ place. starts_with nat_eq (drop place cs) ds) (length cs + 1) (λ j h. not_true (starts_with nat_eq (drop j cs) ds) (λ e.
    let stands : OccursAt hay needle (length (encode_utf8_all (take j cs)))
    = subst (λ x. OccursAt x needle (length (encode_utf8_all (take j cs)))) (encodes-chars hay u)
    (subst (λ n. OccursAt (encode_utf8_all cs) n (length (encode_utf8_all (take j cs)))) (encodes-chars needle v) (occurs_on cs ds j e)) in
    let fits = stands.fits in
    nowhere (length (encode_utf8_all (take j cs))) (omega arith) (omega arith) stands))

-- by its characters a text ends with another where it does by its bytes
ends : (text end xs : List ℕ) → text ≡ xs ++ end → (length end ≤ length text) × OccursAt text end (length text - length end)
ends text end xs e =
    let n : length text ≡ length xs + length end = ap length e ∙ length-append xs end in
    let place : length xs ≡ length text - length end = omega arith in
    (omega arith, subst (λ k. OccursAt text end k) place (subst (λ t. OccursAt t end (length xs)) (ap (λ l. xs ++ l) (append-nil end) ∙ sym e) (occurs_between xs end [])))

last_boundary : (text end : List ℕ) → IsUtf8 text → IsUtf8 end → OccursAt text end (length text - length end) → IsCharBoundary text (length text - length end)
last_boundary text [] u v at = let e : length text ≡ length text - 0 = omega arith in subst (IsCharBoundary text) e (IsCharBoundary-end text)
last_boundary text (b ∷ bs) u v at = boundary_at text (b ∷ bs) (length text - length (b ∷ bs)) v at (omega arith)

ends_is : (text end : List ℕ) → IsUtf8 text → IsUtf8 end
    → Decides (ends_with nat_eq (chars text) (chars end)) ((length end ≤ length text) × OccursAt text end (length text - length end))
ends_is text end u v = (
  λ h. let cs = chars text in
      let n = length cs - length (chars end) in
      ends text end (encode_utf8_all (take n cs))
      (sym (encodes-chars text u) ∙ ap encode_utf8_all (sym (take-append-drop n cs)) ∙ encodes-append (take n cs) (drop n cs)
      ∙ ap (λ l. encode_utf8_all (take n cs) ++ encode_utf8_all l) (sym ((bytes_eq-Decides (chars end) (drop n cs)).0 h))
      ∙ ap (λ l. encode_utf8_all (take n cs) ++ l) (encodes-chars end v)),
  λ h. let k = length text - length end in
      let edge = last_boundary text end u v h.1 in
      let within = h.0 in
      let whole : k + length end ≡ length text = omega arith in
      let rest : drop k text ≡ end
      = OccursAt-split text end k h.1 ∙ ap (λ l. end ++ l) (ap (λ i. drop i text) whole ∙ drop-length text) ∙ append-nil end in
      let front = chars (take k text) in
      let is : chars text ≡ front ++ chars end = parted text k u edge ∙ ap (λ l. front ++ chars l) rest in
      let size : length (chars text) ≡ length front + length (chars end) = ap length is ∙ length-append front (chars end) in
      let at : length (chars text) - length (chars end) ≡ length front = omega arith in
      (bytes_eq-Decides (chars end) (drop (length (chars text) - length (chars end)) (chars text))).1
      (sym (ap (λ i. drop i (chars text)) at ∙ ap (drop (length front)) is ∙ drop-append_seam front (chars end))),
)

pub ends_text : (text end : List ℕ) (b : Bool) → IsUtf8 text → IsUtf8 end → (IsTrue b ↔ ((length end ≤ length text) × OccursAt text end (length text - length end)))
    → b ≡ ends_with nat_eq (chars text) (chars end)
ends_text text end b u v h = one_answer b (ends_with nat_eq (chars text) (chars end)) (h.0, h.1) (ends_is text end u v)

-- scalar values stay so in a part, and spell a text
pub right_of : (b c : Bool) → b && c ≡ true → c ≡ true
right_of true c h = h
right_of false c h = absurd (cc)

pub left_of : (b c : Bool) → b && c ≡ true → b ≡ true
left_of true c h = refl
left_of false c h = absurd (cc)

pub scalars_drop : (n : ℕ) (cs : List ℕ) → all_scalars cs ≡ true → all_scalars (drop n cs) ≡ true
scalars_drop zero cs h = h
scalars_drop (suc n) [] h = refl
scalars_drop (suc n) (c ∷ cs) h = scalars_drop n cs (right_of _ (all_scalars cs) h)

pub scalars_take : (n : ℕ) (cs : List ℕ) → all_scalars cs ≡ true → all_scalars (take n cs) ≡ true
scalars_take zero cs h = refl
scalars_take (suc n) [] h = refl
scalars_take (suc n) (c ∷ cs) h =
    ap (λ b. b && all_scalars (take n cs)) (left_of (scalar c) (all_scalars cs) h) ∙ scalars_take n cs (right_of (scalar c) (all_scalars cs) h)

pub utf8_from : (cs : List ℕ) → all_scalars cs ≡ true → IsUtf8 (encode_utf8_all cs)
utf8_from cs h = (cs, (h, refl))

-- one more character passed, and none left to pass
pub passed : (cs rest more : List ℕ) (i c : ℕ) → i ≤ length cs → rest ≡ encode_utf8_all (drop i cs) → rest ≡ encode_utf8 c ++ more
    → (i + 1 ≤ length cs) × (more ≡ encode_utf8_all (drop (i + 1) cs))
passed cs rest more i c within is next =
    let first = cons_from_encodes (drop i cs) more c (sym is ∙ next) in
    let left = length-drop i cs in
    let some : length (drop i cs) ≡ suc (length first.0) = ap length first.1 in
    let on : drop (i + 1) cs ≡ first.0 = sym (drop-drop 1 i cs) ∙ ap (drop 1) first.1 in
    (omega arith, sym (ap encode_utf8_all on ∙ first.2))

pub exhausted : (cs rest : List ℕ) (i : ℕ) → rest ≡ encode_utf8_all (drop i cs) → length rest ≡ 0 → length cs ≤ i
exhausted cs rest i is none =
    let some = length-le-encodes (drop i cs) in
    let left = length-drop i cs in
    let same = ap length is in
    omega arith

-- the bytes before what is left
pub seam : (text rest : List ℕ) (n : ℕ) → IsUtf8 text → rest ≡ encode_utf8_all (drop n (chars text)) → (length rest ≤ length text) × (take (length text - length rest) text ≡ encode_utf8_all (take n (chars text))) × IsCharBoundary text (length text - length rest)
seam text rest n u is =
    let cs = chars text in
    let front = encode_utf8_all (take n cs) in
    let whole : text ≡ front ++ rest = sym (encodes-chars text u) ∙ ap encode_utf8_all (sym (take-append-drop n cs)) ∙ encodes-append (take n cs) (drop n cs) ∙ ap (λ l. front ++ l) (sym is) in
    let size : length text ≡ length front + length rest = ap length whole ∙ length-append front rest in
    let at : length text - length rest ≡ length front = omega arith in (
      omega arith,
      ap (λ i. take i text) at ∙ ap (take (length front)) whole ∙ take-append_seam front rest,
      subst (IsCharBoundary text) (sym at) (IsCharBoundary-at_seam text front rest whole (subst IsUtf8 (sym is) (utf8_from (drop n cs) (scalars_drop n cs (scalars-chars text u))))),
    )

-- a range from the front on
pub front_range : (text : List ℕ) (k : ℕ) → slice_range text 0 k ≡ take k text
front_range text k = let e : k - 0 ≡ k = omega arith in ap (λ n. take n text) e

-- where there are no more characters, the front is all
pub front_all : (text : List ℕ) (n : ℕ) → IsUtf8 text → length (chars text) < n → text ≡ encode_utf8_all (take n (chars text))
front_all text n u h = sym (ap encode_utf8_all (take_all n (chars text) (omega (arith, h))) ∙ encodes-chars text u)

-- from one place up to another, or to the end
pub part_is : (cs rest out : List ℕ) (start stop : ℕ) → all_scalars cs ≡ true → start ≤ stop → start ≤ length cs → rest ≡ encode_utf8_all (drop start cs)
    → out ≡ encode_utf8_all (take (stop - start) (chars rest)) → Some out ≡ option_map encode_utf8_all (substring cs (pos start) (pos stop))
part_is cs rest out start stop scalar order within is made =
    let left : chars rest ≡ drop start cs = ap chars is ∙ chars-encodes (drop start cs) (scalars_drop start cs scalar) in
    let some : length (drop start cs) ≡ length cs - start = length-drop start cs in
    let cut : min stop (length cs) - start ≡ min (stop - start) (length (drop start cs)) = omega arith in
    let there : leb start (min stop (length cs)) ≡ true = le-leb start (min stop (length cs)) (omega arith) in
    let same : take (stop - start) (chars rest) ≡ take (min stop (length cs) - start) (drop start cs)
    = ap (take (stop - start)) left ∙ sym (take_min (stop - start) (drop start cs)) ∙ ap (λ n. take n (drop start cs)) (sym cut) in
    rw there (ap Some (made ∙ ap encode_utf8_all same))

pub part_lost : (cs : List ℕ) (start stop : ℕ) → min stop (length cs) < start → None ≡ option_map encode_utf8_all (substring cs (pos start) (pos stop))
part_lost cs start stop h = let no : leb start (min stop (length cs)) ≡ false = lt-leb _ _ h in rw no refl
