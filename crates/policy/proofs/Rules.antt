-- `allows` computes what the rules derive. Assumes nothing.
use Rattle.std.proofs.Common.{◌≡◌, true, false, ◌⊎◌, Decides, refl, inl, inr}
use Rattle.std.proofs.lemmas.Bool.{and_parts, and_from, and_cases, and_left, and_right, or_cases, or_parts, or_from, or_left, or_right, both_ways, cases_Bool}
use Rattle.lattice.specs.Schemes.{Scheme}
use Rattle.policy.specs.Clauses.{Label, Clause, Clauses, allow, deny, none, more, covered, narrowed, has_bottom, allows, all_allow, some_allows}
use Rattle.policy.specs.Rules.{Among, first, later, Allows, allow_allows, deny_misses, deny_excepts, Denies, allow_misses, allow_excepts, deny_denies}

-- what holds of the first exception and of each later one holds of each
pub among_each : (P : Clause → Type 0) (d : Clause) (es : Clauses) → P d → ((e : Clause) → Among e es → P e) → (e : Clause) → Among e (more d es) → P e
among_each P d es here rest e first = here
among_each P d es here rest e (later m) = rest e m

module _ (s : Scheme) where
  -- ---- from the tests to the rules

  mutual
    pub allows_derived : (c : Clause) (t : Label) → allows s c t ≡ true → Allows s c t
    allows_derived (allow l es) t h =
        let parts = and_parts (covered s t l) (all_allow s es t) h in
        allow_allows parts.0 (all_allow_derived es t parts.1)
    allows_derived (deny l es) t h =
        elim (cases_Bool (has_bottom (narrowed s t l))) [
          | inl bottom ↦ deny_misses bottom
          | inr met ↦ elim (or_cases (has_bottom (narrowed s t l)) (some_allows s es (narrowed s t l)) h) [
            | inl bottom ↦ absurd (both_ways (has_bottom (narrowed s t l)) met bottom)
            | inr some ↦ let found = some_allows_derived es (narrowed s t l) some in deny_excepts met found.0 found.1 found.2
          ]
        ]

    pub all_allow_derived : (es : Clauses) (t : Label) → all_allow s es t ≡ true → (e : Clause) → Among e es → Allows s e t
    all_allow_derived none t h e m = elim m [ ]
    all_allow_derived (more d es) t h e m =
        let parts = and_parts (allows s d t) (all_allow s es t) h in
        among_each (λ e. Allows s e t) d es (allows_derived d t parts.0) (all_allow_derived es t parts.1) e m

    pub some_allows_derived : (es : Clauses) (t : Label) → some_allows s es t ≡ true → (e : Clause) × Among e es × Allows s e t
    some_allows_derived none t h = absurd (both_ways false refl h)
    some_allows_derived (more d es) t h =
        elim (or_cases (allows s d t) (some_allows s es t) h) [
          | inl here ↦ (d, first, allows_derived d t here)
          | inr rest ↦ let found = some_allows_derived es t rest in (found.0, later found.1, found.2)
        ]

  mutual
    pub denies_derived : (c : Clause) (t : Label) → allows s c t ≡ false → Denies s c t
    denies_derived (allow l es) t h =
        elim (cases_Bool (covered s t l)) [
          | inr missed ↦ allow_misses missed
          | inl covers ↦ elim (and_cases (covered s t l) (all_allow s es t) h) [
            | inl missed ↦ absurd (both_ways (covered s t l) missed covers)
            | inr not_all ↦ let found = some_denies_derived es t not_all in allow_excepts covers found.0 found.1 found.2
          ]
        ]
    denies_derived (deny l es) t h =
        let parts = or_parts (has_bottom (narrowed s t l)) (some_allows s es (narrowed s t l)) h in
        deny_denies parts.0 (all_deny_derived es (narrowed s t l) parts.1)

    pub all_deny_derived : (es : Clauses) (t : Label) → some_allows s es t ≡ false → (e : Clause) → Among e es → Denies s e t
    all_deny_derived none t h e m = elim m [ ]
    all_deny_derived (more d es) t h e m =
        let parts = or_parts (allows s d t) (some_allows s es t) h in
        among_each (λ e. Denies s e t) d es (denies_derived d t parts.0) (all_deny_derived es t parts.1) e m

    pub some_denies_derived : (es : Clauses) (t : Label) → all_allow s es t ≡ false → (e : Clause) × Among e es × Denies s e t
    some_denies_derived none t h = absurd (both_ways true h refl)
    some_denies_derived (more d es) t h =
        elim (and_cases (allows s d t) (all_allow s es t) h) [
          | inl here ↦ (d, first, denies_derived d t here)
          | inr rest ↦ let found = some_denies_derived es t rest in (found.0, later found.1, found.2)
        ]

  -- ---- from the rules to the tests

  pub all_allow_from : (es : Clauses) (t : Label) → ((e : Clause) → Among e es → allows s e t ≡ true) → all_allow s es t ≡ true
  all_allow_from none t each = refl
  all_allow_from (more d es) t each = and_from (allows s d t) (all_allow s es t) (each d first) (all_allow_from es t (λ e m. each e (later m)))

  pub some_allows_from : (t : Label) (e : Clause) (es : Clauses) → Among e es → allows s e t ≡ true → some_allows s es t ≡ true
  some_allows_from t e es (first {es = rest}) h = or_left (allows s e t) (some_allows s rest t) h
  some_allows_from t e es (later {d = d} {es = rest} m) h = or_right (allows s d t) (some_allows s rest t) (some_allows_from t e rest m h)

  pub none_allows_from : (es : Clauses) (t : Label) → ((e : Clause) → Among e es → allows s e t ≡ false) → some_allows s es t ≡ false
  none_allows_from none t each = refl
  none_allows_from (more d es) t each = or_from (allows s d t) (some_allows s es t) (each d first) (none_allows_from es t (λ e m. each e (later m)))

  pub not_all_from : (t : Label) (e : Clause) (es : Clauses) → Among e es → allows s e t ≡ false → all_allow s es t ≡ false
  not_all_from t e es (first {es = rest}) h = and_left (allows s e t) (all_allow s rest t) h
  not_all_from t e es (later {d = d} {es = rest} m) h = and_right (allows s d t) (all_allow s rest t) (not_all_from t e rest m h)

  pub allows_sound : (c : Clause) (t : Label) → Allows s c t → allows s c t ≡ true
  allows_sound c t (allow_allows {l = l} {es = es} covers each) =
      and_from (covered s t l) (all_allow s es t) covers (all_allow_from es t (λ e m. allows_sound e t (each e m)))
  allows_sound c t (deny_misses {l = l} {es = es} bottom) = or_left (has_bottom (narrowed s t l)) (some_allows s es (narrowed s t l)) bottom
  allows_sound c t (deny_excepts {l = l} {es = es} met e m passes) =
      or_right (has_bottom (narrowed s t l)) (some_allows s es (narrowed s t l)) (some_allows_from (narrowed s t l) e es m (allows_sound e (narrowed s t l) passes))

  pub denies_sound : (c : Clause) (t : Label) → Denies s c t → allows s c t ≡ false
  denies_sound c t (allow_misses {l = l} {es = es} missed) = and_left (covered s t l) (all_allow s es t) missed
  denies_sound c t (allow_excepts {l = l} {es = es} covers e m fails) =
      and_right (covered s t l) (all_allow s es t) (not_all_from t e es m (denies_sound e t fails))
  denies_sound c t (deny_denies {l = l} {es = es} met each) =
      or_from (has_bottom (narrowed s t l)) (some_allows s es (narrowed s t l)) met
      (none_allows_from es (narrowed s t l) (λ e m. denies_sound e (narrowed s t l) (each e m)))

  -- ---- both ways

  -- a clause's test is true exactly when the rules derive that it allows, and false exactly when they derive that it denies
  pub decides_allows : (c : Clause) (t : Label) → Decides (allows s c t) (Allows s c t)
  decides_allows c t = (allows_derived c t, allows_sound c t)

  pub denies_exactly : (c : Clause) (t : Label) → (allows s c t ≡ false → Denies s c t) × (Denies s c t → allows s c t ≡ false)
  denies_exactly c t = (denies_derived c t, denies_sound c t)

  -- every label is allowed or denied
  pub allowed_or_denied : (c : Clause) (t : Label) → Allows s c t ⊎ Denies s c t
  allowed_or_denied c t = elim (cases_Bool (allows s c t)) [ inl passes ↦ inl (allows_derived c t passes) | inr fails ↦ inr (denies_derived c t fails) ]

  -- and never both
  pub never_both : (c : Clause) (t : Label) → Allows s c t → Denies s c t → ⊥
  never_both c t p q = both_ways (allows s c t) (denies_sound c t q) (allows_sound c t p)
