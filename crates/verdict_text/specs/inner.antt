-- What serves contracts inside alone. Nothing here has to be believed: the file names the law that ties it to the rest.
-- Assumes nothing.
pub mod First
