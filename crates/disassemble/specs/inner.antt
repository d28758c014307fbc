-- What serves contracts and proofs inside alone. Nothing here has to be believed: each file names the law that ties it
-- to the rest.
-- Assumes nothing.
pub mod Texts
