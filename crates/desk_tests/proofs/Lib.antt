mod FilesKept
