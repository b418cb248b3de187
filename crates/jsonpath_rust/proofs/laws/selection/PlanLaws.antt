-- How the steps of the making of a plan follow one another.
use Rattle.std.proofs.Common.{◌≡◌, ℕ, ◌+◌, ◌<◌, ◌≤◌, List, [], ◌∷◌, ◌++◌, map, length, get_or, take, true, false, Bool, ◌&&◌, refl, sym, ◌∙◌, ap, subst, append_assoc, append-nil, if◌then◌else◌, IsTrue}
use Rattle.std.proofs.Math.Seq.{get_or-append_seam}
use Rattle.std.proofs.lemmas.List.{map-append, map_more, take_all}
use Rattle.std.proofs.Math.ListN.{length-map}
use Rattle.std.proofs.lemmas.Bool.{and_from, and_parts, both_ways}
use Rattle.std.proofs.lemmas.List.Folds.{list_all-append}
use Rattle.jsonpath_base.specs.Prelude.Documents.{arguments_of, filters_of, list_all, segments_of}
use Rattle.jsonpath_rust.specs.Prelude.Selection.{Exists, argument_in, argument_is_rooted, arguments_are_rooted, Constant, constant_view, ConstantPart, Constants, Count, Extends, filter_is_rooted, filters_are_rooted, is_same_demand, IsBeside, IsKept, IsNumbered, IsRight, IsRooted, IsStable, kept_from, constants_in, constants_view, Made, nodes, Single, part_at, part_is_rooted, parts_where, Segment, segment_view, segments_meant, Values, Demand}
use Rattle.jsonpath_parser.specs.tree.Syntax as tree
use Rattle.jsonpath_rust.specs.declared.selection.plan.make.Maker.{Maker}

extends_none : (a : Constants) → Extends a a
extends_none a = record { more = []; is = sym (append-nil a) }

extends_on : (a b c : Constants) → Extends a b → Extends b c → Extends a c
extends_on a b c h k = record { more = h.more ++ k.more; is = k.is ∙ ap (λ x. x ++ k.more) h.is ∙ append_assoc a h.more k.more }

-- nothing more is kept
pub made_none : {A : Type 0} {m : Maker} {test : A → Bool} (part : Constants → A) (b : A) {a : A} → ((constants : Constants) → part constants ≡ b) → a ≡ b → IsTrue (test b) → Made test m m part a
made_none {m = m} {test = test} part b s e t = record { grows = extends_none (constants_in m); says = λ r constants h. s constants ∙ sym e; right = λ r. r; rooted = λ h. (h, ap test e ∙ t) }

-- nothing is kept between the two
right_beside : (old new : Maker) → new.constants.items ≡ old.constants.items → IsRight old → IsRight new
right_beside old new same r =
    let e : constants_in new ≡ constants_in old = ap constants_view same in
    record {
      stable = λ constants x. ap (parts_where constants) same ∙ r.stable constants (subst (λ k. Extends k constants) e x) ∙ sym e;
      rooted = ap (list_all part_is_rooted) e ∙ r.rooted;
    }

pub same_maker : {m : Maker} → IsBeside m m m.scope.rooted
same_maker = record { same = refl; met = refl }

-- a part, where nothing is kept before it and behind it
pub made_around : {A : Type 0} {test inner : A → Bool} {old begun made new : Maker} {part : Constants → A} {a : A} {around now : Bool} → IsBeside begun old around → IsBeside made new now → (IsTrue now → IsTrue around × IsTrue (test a)) → Made inner begun made part a → Made test old new part a
made_around {old = old} {begun = begun} {made = made} {new = new} b e back m =
    let first : constants_in begun ≡ constants_in old = sym (ap constants_view b.same) in
    let last : constants_in new ≡ constants_in made = ap constants_view e.same in
    record {
      grows = subst (λ k. Extends k (constants_in new)) first (subst (Extends (constants_in begun)) (sym last) m.grows);
      says = λ r constants x. m.says (right_beside old begun (sym b.same) r) constants (subst (λ k. Extends k constants) last x);
      right = λ r. right_beside made new e.same (m.right (right_beside old begun (sym b.same) r));
      rooted = λ h. let both = back (sym e.met ∙ h) in (b.met ∙ both.0, both.1);
    }

-- a part that was begun and ended
pub made_ended : {A : Type 0} {test : A → Bool} {old begun made new : Maker} {part : Constants → A} {a : A} {around : Bool} → IsBeside begun old around → IsBeside made new (around && made.scope.rooted) → Made test begun made part a → Made test old new part a
made_ended b e m = made_around b e (λ h. let both = and_parts _ _ h in (both.0, (m.rooted both.1).1)) m

-- a part behind an `@`
pub made_here : {A : Type 0} {test inner : A → Bool} {old begun new : Maker} {part : Constants → A} {a : A} → IsBeside old begun false → Made inner begun new part a → Made test old new part a
made_here b m = made_around (record { same = sym b.same; met = refl }) same_maker (λ h. absurd (both_ways _ b.met (m.rooted h).0)) m

-- the part in other words, or what holds it
pub made_as : {A B : Type 0} {inner : A → Bool} {test : B → Bool} {old new : Maker} {part : Constants → A} {a : A} (k : A → B) (whole : Constants → B) (b : B) → ((constants : Constants) → whole constants ≡ k (part constants)) → b ≡ k a → (IsTrue (inner a) → IsTrue (test (k a))) → Made inner old new part a → Made test old new whole b
made_as {test = test} k whole b e f t m = record { grows = m.grows; says = λ r constants h. e constants ∙ ap k (m.says r constants h) ∙ sym f; right = m.right; rooted = λ h. let both = m.rooted h in (both.0, ap test f ∙ t both.1) }

-- two parts, one after the other
pub made_both : {A B C : Type 0} {one : A → Bool} {other : B → Bool} {test : C → Bool} {old mid new : Maker} {first : Constants → A} {second : Constants → B} {a : A} {b : B} (k : A → B → C) (whole : Constants → C) (c : C) → ((constants : Constants) → whole constants ≡ k (first constants) (second constants)) → c ≡ k a b → (IsTrue (one a) → IsTrue (other b) → IsTrue (test (k a b))) → Made one old mid first a → Made other mid new second b → Made test old new whole c
made_both {test = test} {old = old} {mid = mid} {new = new} {first = first} {second = second} {a = a} {b = b} k whole c e f t m n = record {
  grows = extends_on (constants_in old) (constants_in mid) (constants_in new) m.grows n.grows;
  says = λ r constants h. e constants ∙ ap (λ x. k x (second constants)) (m.says r constants (extends_on (constants_in mid) (constants_in new) constants n.grows h)) ∙ ap (k a) (n.says (m.right r) constants h) ∙ sym f;
  right = λ r. n.right (m.right r);
  rooted = λ h.
      let later = n.rooted h in
      let sooner = m.rooted later.0 in
      (sooner.0, ap test f ∙ t sooner.1 later.1);
}

-- none of a list
pub made_start : {X Y A : Type 0} {m : Maker} (test : A → Bool) (view : Constants → X → A) (source : Y → A) (xs : List X) (ys : List Y) → xs ≡ [] → Made (list_all test) m m (λ constants. map (view constants) xs) (map source (take 0 ys))
made_start test view source xs ys e = made_none (λ constants. map (view constants) xs) [] (λ constants. ap (map (view constants)) e) refl refl

-- all of a list
pub made_end : {Y A : Type 0} {old new : Maker} (test : A → Bool) (part : Constants → List A) (source : Y → A) (ys : List Y) (i : ℕ) → length ys ≤ i → Made (list_all test) old new part (map source (take i ys)) → Made (list_all test) old new part (map source ys)
made_end test part source ys i h m = made_as (λ xs. xs) part (map source ys) (λ constants. refl) (sym (ap (map source) (take_all i ys h))) (λ t. t) m

-- one more of a list
pub made_next : {X Y A : Type 0} {test : A → Bool} {old mid new : Maker} (view : Constants → X → A) (source : Y → A) (xs zs : List X) (x : X) (ys : List Y) (i : ℕ) (y : Y) → zs ≡ xs ++ x ∷ [] → i < length ys → y ≡ get_or ys i y → Made (list_all test) old mid (λ constants. map (view constants) xs) (map source (take i ys)) → Made test mid new (λ constants. view constants x) (source y) → Made (list_all test) old new (λ constants. map (view constants) zs) (map source (take (i + 1) ys))
made_next {test = test} view source xs zs x ys i y p h e m n = made_both (λ done a. done ++ a ∷ []) _ _ (λ constants. ap (map (view constants)) p ∙ map-append (view constants) xs (x ∷ [])) (map_more source ys i y h ∙ ap (λ z. map source (take i ys) ++ source z ∷ []) (sym e)) (λ all one. list_all-append test _ _ ∙ and_from _ _ all (and_from _ _ one refl)) m n

pub filters_rooted : (fs : List tree.Filter) → filters_are_rooted (filters_of fs) ≡ list_all filter_is_rooted fs
filters_rooted [] = refl
filters_rooted (f ∷ fs) = ap (λ b. filter_is_rooted f && b) (filters_rooted fs)

pub arguments_rooted : (args : List tree.Argument) → arguments_are_rooted (arguments_of args) ≡ list_all argument_is_rooted args
arguments_rooted [] = refl
arguments_rooted (a ∷ args) = ap (λ b. argument_is_rooted a && b) (arguments_rooted args)

-- ---- constants

pub same_self : (w : Demand) → is_same_demand w w ≡ true
same_self Exists = refl
same_self Count = refl
same_self Single = refl
same_self Values = refl

-- the query of a part, for what is wanted of it
pub argument_in-nodes : (w : Demand) (q : tree.Query) → argument_in w (nodes w q) ≡ tree.test_argument (tree.absolute q)
argument_in-nodes w q = ap (λ b. tree.test_argument (tree.absolute (if b then q else tree.no_segments))) (same_self w)

kept_push : (constants : Constants) (es : List Constant) (e : Constant) → kept_from constants (es ++ e ∷ []) ≡ kept_from constants es ++ constant_view (kept_from constants es) e ∷ []
kept_push constants [] e = refl
kept_push constants (x ∷ es) e = kept_push (constants ++ constant_view constants x ∷ []) es e

-- as many are kept as there are constants
kept_count : (m : Maker) → IsRight m → length (constants_in m) ≡ length m.constants.items
kept_count m r = sym (ap (λ l. length l) (r.stable (constants_in m) (extends_none (constants_in m)))) ∙ length-map m.constants.items (constant_view (constants_in m))

-- the constant that was added stands for what the part stands for
pub numbered_kept : (old new : Maker) (part : Constant) (n : ℕ) → IsKept old new part n → IsNumbered old new part n
numbered_kept old new part n k = record {
  made = λ {first} {p} m root.
      let last : ConstantPart = constant_view (constants_in old) part in
      let grown : constants_in new ≡ constants_in old ++ last ∷ [] = ap constants_view k.constants ∙ kept_push [] old.constants.items _ in
      let grows : Extends (constants_in old) (constants_in new) = record { more = last ∷ []; is = grown } in
      let is : IsRight first → last ≡ p = λ r. m.says r (constants_in old) (extends_none (constants_in old)) in
      record {
        grows = extends_on (constants_in first) (constants_in old) (constants_in new) m.grows grows;
        says = λ r constants x. ap (λ l. part_at l n) (x.is ∙ ap (λ l. l ++ x.more) grown ∙ append_assoc (constants_in old) (last ∷ []) x.more) ∙ ap (λ i. part_at (constants_in old ++ last ∷ x.more) i) (k.number ∙ sym (kept_count old (m.right r))) ∙ get_or-append_seam (constants_in old) last x.more (nodes Exists tree.no_segments) ∙ is r;
        right = λ r.
            let was : IsRight old = m.right r in
            record {
              stable = λ constants x.
                  let on : Extends (constants_in old) constants = extends_on (constants_in old) (constants_in new) constants grows x in
                  ap (parts_where constants) k.constants ∙ map-append (constant_view constants) old.constants.items _ ∙ ap (λ l. l ++ constant_view constants part ∷ []) (was.stable constants on) ∙ ap (λ q. constants_in old ++ q ∷ []) (m.says r constants on ∙ sym (is r)) ∙ sym grown;
              rooted = ap (list_all part_is_rooted) grown ∙ list_all-append part_is_rooted (constants_in old) (last ∷ []) ∙ and_from _ _ was.rooted (and_from _ _ (ap part_is_rooted (is r) ∙ root) refl);
            };
        rooted = λ h. m.rooted (sym k.met ∙ h);
      };
}

-- ---- the plan

-- where nothing is kept, it is right
begun_right : (m : Maker) → m.constants.items ≡ [] → IsRight m
begun_right m k = record {
  stable = λ constants x. ap (parts_where constants) k ∙ sym (ap constants_view k);
  rooted = ap (λ l. list_all part_is_rooted (constants_view l)) k;
}

pub plan_made : {test : List tree.Segment → Bool} {old new : Maker} {was : List tree.Segment} (gs : List Segment) → Made test old new (λ constants. map (segment_view constants) gs) was → old.constants.items ≡ [] → segments_meant (constants_view new.constants.items) gs ≡ segments_of was
plan_made {old = old} {new = new} gs m k = ap segments_of (m.says (begun_right old k) (constants_in new) (extends_none (constants_in new)))

pub plan_stable : {A : Type 0} {test : A → Bool} {old new : Maker} {part : Constants → A} {a : A} → Made test old new part a → old.constants.items ≡ [] → IsStable new.constants.items
plan_stable {old = old} {new = new} m k = (m.right (begun_right old k)).stable (constants_in new) (extends_none (constants_in new))

pub plan_rooted : {A : Type 0} {test : A → Bool} {old new : Maker} {part : Constants → A} {a : A} → Made test old new part a → old.constants.items ≡ [] → IsRooted new.constants.items
plan_rooted {old = old} m k = (m.right (begun_right old k)).rooted
