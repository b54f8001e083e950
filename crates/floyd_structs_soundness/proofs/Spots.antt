-- Parts taken out of a list, of which another part has the place of one.
use Rattle.std.proofs.Common.{◌≡◌, inl, inr, ℕ, ◌+◌, List, [], ◌∷◌, ◌++◌, Ok, sym, ap, ap₂, subst, ◌∙◌}
use Rattle.std.specs.List.{AllByRecursion}
use Rattle.floyd_clight_heap.specs.Heaplet.{Heaplet}
use Rattle.floyd_clight_heap.proofs.Sums.{assoc, assoc_back, comm}
use Rattle.floyd_tree_values.specs.BuiltIns.{Env}
use Rattle.floyd_assert.specs.Removal.{Difference, Without}
use Rattle.floyd_assert_trees.specs.declared.sep.Sep.{Sep}
use Rattle.floyd_assert_meaning.specs.Parts.{PartHolds, PartsHold}
use Rattle.floyd_assert_meaning.specs.Parts as part
use Rattle.floyd_assert_meaning.specs.Settings.{Setting}
use Rattle.floyd_assert_meaning.proofs.Inversions.{more_of}
use Rattle.floyd_assert_meaning.proofs.Orders.{apart, put_back, taken_out, turned}
use Rattle.floyd_entail_soundness.proofs.Placing.{same_Ok}

module _ (S : Setting) (env : Env) where
  -- a part in front of the others
  taken : (p : Sep) (parts rest : List Sep) (h : Heaplet) → Without p parts rest → PartsHold S env parts h → PartsHold S env (p ∷ rest) h
  taken p [] rest h w m = absurd w
  taken p (q ∷ parts) rest h (inl w) m = subst (λ ps. PartsHold S env ps h) (ap₂ (λ a as'. a ∷ as') w.0 (sym w.1)) m
  taken p (q ∷ parts) rest h (inr w) m =
      let x = more_of m in
      let k = taken p parts w.1.0 x.others w.1.1 x.rest in
      subst (λ ps. PartsHold S env (p ∷ ps) h) (sym w.1.2) (turned S env q p w.1.0 h (part.more x.joins x.first k))

  -- the place of the whole in what is left; with any other part there, those that are gone stand before what is left
  pub record Spot (whole : Sep) (before behind gone rest : List Sep) : Type 0 where
    pub ahead : List Sep
    pub after : List Sep
    pub rest_is : rest ≡ ahead ++ whole ∷ after
    pub keeps : (r : Sep) (h : Heaplet) → PartsHold S env (before ++ r ∷ behind) h → PartsHold S env (gone ++ (ahead ++ r ∷ after)) h

  one_gone : (whole g : Sep) (before behind rest : List Sep) → ¬ (whole ≡ g) → Without g (before ++ whole ∷ behind) rest → Spot whole before behind (g ∷ []) rest
  one_gone whole g [] behind rest ne (inl w) = absurd (ne w.0)
  one_gone whole g [] behind rest ne (inr w) = record {
    ahead = [];
    after = w.1.0;
    rest_is = w.1.2;
    keeps = λ r h m.
        let x = more_of m in
        turned S env r g w.1.0 h (part.more x.joins x.first (taken g behind w.1.0 x.others w.1.1 x.rest));
  }
  one_gone whole g (q ∷ before) behind rest ne (inl w) = record {
    ahead = before;
    after = behind;
    rest_is = w.1;
    keeps = λ r h m. subst (λ z. PartsHold S env (z ∷ (before ++ r ∷ behind)) h) w.0 m;
  }
  one_gone whole g (q ∷ before) behind rest ne (inr w) =
      let s = one_gone whole g before behind w.1.0 ne w.1.1 in
      record {
        ahead = q ∷ s.ahead;
        after = s.after;
        rest_is = w.1.2 ∙ ap (λ ps. q ∷ ps) s.rest_is;
        keeps = λ r h m.
            let x = more_of m in
            turned S env q g (s.ahead ++ r ∷ s.after) h (part.more x.joins x.first (s.keeps r x.others x.rest));
      }

  pub all_gone : (whole : Sep) (gone before behind rest : List Sep) (n : ℕ) → AllByRecursion (λ g. ¬ (whole ≡ g)) gone → Difference (before ++ whole ∷ behind) n gone (Ok rest) → Spot whole before behind gone rest
  all_gone whole [] before behind rest n ne d = record {
    ahead = before;
    after = behind;
    rest_is = same_Ok {A = List Sep} rest (before ++ whole ∷ behind) d;
    keeps = λ r h m. m;
  }
  all_gone whole (g ∷ gone) before behind rest n ne (inl d) =
      let s = one_gone whole g before behind d.0 ne.0 d.1 in
      let t = all_gone whole gone s.ahead s.after rest (n + 1) ne.1 (subst (λ ps. Difference ps (n + 1) gone (Ok rest)) s.rest_is d.2) in
      record {
        ahead = t.ahead;
        after = t.after;
        rest_is = t.rest_is;
        keeps = λ r h m.
            let x = more_of (s.keeps r h m) in
            part.more x.joins x.first (t.keeps r x.others x.rest);
      }
  all_gone whole (g ∷ gone) before behind rest n ne (inr d) =
      let wrong = d.1 in
      absurd cc

  -- the whole in the place of one part, which it holds of together with those that are gone
  pub whole_there : (whole p : Sep) (gone before behind rest : List Sep) (h : Heaplet) → Spot whole before behind gone rest → ((c : Heaplet) → PartsHold S env (p ∷ gone) c → PartHolds S env whole c) → PartsHold S env (before ++ p ∷ behind) h → PartsHold S env rest h
  whole_there whole p gone before behind rest h s one m =
      let a = apart S env gone (s.ahead ++ p ∷ s.after) h (s.keeps p h m) in
      let x = more_of (taken_out S env s.ahead s.after p a.1 a.4) in
      let o = assoc x.joins (comm a.2) in
      let c = assoc_back (comm o.1) o.2 in
      subst (λ ps. PartsHold S env ps h) (sym s.rest_is) (put_back S env s.ahead s.after whole h (part.more c.2 (one c.0 (part.more c.1 x.first a.3)) x.rest))
