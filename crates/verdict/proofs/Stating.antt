-- What two answers of any enum that state the same have in common. Assumes nothing.
use Prim.Native.Nat.{ℕ}
use mathlib.Core.Path.{◌≡◌, ap, ap₂}
use mathlib.Core.List.{List}
use native.Mathlib.Omega.{arith}
use lib.ListN.{length, get_or}
use Rattle.verdict.specs.declared.Reason.{Reason}
use Rattle.verdict.specs.declared.Refusal.{Refusal}
use Rattle.verdict.specs.Stated.{gives, misses, refuses, stated_refusal}
use Rattle.verdict.proofs.Numbered.{number_own}

-- the same values are given, one by one, and as many
stated_values : {v u : List ℕ} → gives v ≡ gives u → v ≡ u
stated_values e = cc

pub stated_at : (i : ℕ) {v u : List ℕ} → gives v ≡ gives u → get_or v i 0 ≡ get_or u i 0
stated_at i e = ap (λ (l : List ℕ). get_or l i 0) (stated_values e)

pub stated_count : {v u : List ℕ} → gives v ≡ gives u → length v ≡ length u
stated_count e = ap length (stated_values e)

pub misses_one : {m k : ℕ} → misses m ≡ misses k → m ≡ k
misses_one e = cc

-- values, missing bytes and refusals are apart
pub gives_no_misses : {v : List ℕ} {m : ℕ} → gives v ≡ misses m → ⊥
gives_no_misses e = let z : ◌≡◌ {A = ℕ} 0 1 = cc in omega arith

pub gives_no_refusal : {v : List ℕ} {n p : ℕ} → gives v ≡ refuses n p → ⊥
gives_no_refusal e = let z : ◌≡◌ {A = ℕ} 0 1 = cc in omega arith

pub misses_no_refusal : {m n p : ℕ} → misses m ≡ refuses n p → ⊥
misses_no_refusal e = let z : ◌≡◌ {A = ℕ} 0 1 = cc in omega arith

-- refusals that state the same are the same
pub refusal_stated : (r q : Refusal) → stated_refusal r ≡ stated_refusal q → r ≡ q
refusal_stated r q e = ap₂ (λ (k : Reason) (p : ℕ). record { reason = k; place = p }) (number_own r.reason q.reason (same_number e)) (same_place e)
  where
    same_number : {n m p k : ℕ} → refuses n p ≡ refuses m k → n ≡ m
    same_number e = cc

    same_place : {n m p k : ℕ} → refuses n p ≡ refuses m k → p ≡ k
    same_place e = cc
